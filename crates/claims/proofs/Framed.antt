-- Octets that are a row of messages, as a sender writes them one after the other.
use Rattle.wire.specs.declared.Version.{Version}
use mathlib.Core.Path.{◌≡◌, refl, ap, ◌∙◌}
use mathlib.Core.List.{List, [], ◌∷◌, ◌++◌, append-nil}
use Prim.Native.Nat.{ℕ, ◌+◌, ◌≤◌, ◌<◌, ◌^◌}
use native.Mathlib.Omega.{arith}
use lib.ListN.{length, length-append}
use lib.Seq.{drop-append_seam}
use Rattle.wire.specs.Message.{Message, skipped, good}
use Rattle.wire.specs.Layout.{read}
use Rattle.wire.specs.Frame.{Item, row, prepend, items, follow, scan, scanned, messages, frame_max}
use Rattle.writing.specs.Written.{written, padding}
use Rattle.wire.proofs.Scanning.{scan_step}
use Rattle.wire.proofs.Spans.{sized}
use Rattle.writing.proofs.Written.{Writable, read-written, read-padding, length-written, length-padding}
use Rattle.rows.specs.Message.{draft}
use Rattle.rows.specs.Messages.{messages_in}
use Rattle.claims.specs.Record.{WellFormed}

-- the octets at position p are a row of the messages ms
pub record Framed (v : Version) (p : ℕ) (xs : List ℕ) (ms : List Message) : Type 0 where
  found : List Item
  whole : scan (read v) (length xs) p xs ≡ row found
  means : messages_in found ≡ ms

abbrev pub Reads : Version → List ℕ → List Message → Type 0
Reads v xs ms = (p : ℕ) → Framed v p xs ms

pub reads_none : (v : Version) → Reads v [] []
unfolding scan
reads_none v p = record { found = []; whole = refl; means = refl }

-- one message in front
reads_more : (v : Version) (xs rest : List ℕ) (m : Message) (ms : List Message) → read v (xs ++ rest) ≡ good m (length xs) → 0 < length xs → Reads v rest ms → Reads v (xs ++ rest) (m ∷ ms)
unfolding follow prepend
reads_more v xs rest m ms e some r p =
    let f = r (p + length xs) in
    record {
      found = record { start = p; next = p + length xs; message = m } ∷ f.found;
      whole = scan_step (read v) (sized v) p (xs ++ rest) (omega (arith, length-append xs rest)) ∙ rw (e, drop-append_seam xs rest, f.whole);
      means = ap (λ l. m ∷ l) f.means;
    }

pub reads-written : (v : Version) (m : Message) → Writable m → (rest : List ℕ) (ms : List Message) → Reads v rest ms → Reads v (written v m ++ rest) (m ∷ ms)
reads-written v m w rest ms r =
    let n = length-written v m in
    reads_more v (written v m) rest m ms (read-written v m rest w ∙ ap (good m) (omega arith)) (omega arith) r

-- padding closes a frame
pub reads-padding : (v : Version) (n : ℕ) → 0 < n → n < 2 ^ 20 → Reads v (padding n) (skipped ∷ [])
reads-padding v n h k =
    let l = length-padding n in
    rw append-nil at (reads_more v (padding n) [] skipped [] (rw append-nil (read-padding v n h k ∙ ap (good skipped) (omega arith))) (omega arith) (reads_none v))

pub well_formed_lem : (v : Version) (f : List ℕ) (ms : List Message) → Reads v f ms → 0 < length f → length f ≤ frame_max → WellFormed (draft v) f
unfolding scanned
well_formed_lem v f ms r some small = record { some = some; small = small; items = (r 0).found; whole = (r 0).whole }

pub reads_messages : (v : Version) (f : List ℕ) (ms : List Message) → Reads v f ms → messages (read v) f ≡ ms
unfolding messages scanned items
reads_messages v f ms r = rw (r 0).whole (r 0).means
