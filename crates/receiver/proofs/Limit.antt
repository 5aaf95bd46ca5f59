-- The receiving call is the message loop with a limit of one bundle.
use mathlib.Core.Bool.{Bool, true, false, ◌&&◌}
use mathlib.Core.List.{List, [], ◌∷◌}
use mathlib.Core.Option.{Option, none, some}
use mathlib.Core.Path.{◌≡◌, refl}
use Prim.Native.Nat.{ℕ, ◌+◌, ◌≤◌}
use native.Mathlib.Omega.{arith}
use native.Mathlib.Nat.{zero-add, sub-zero}
use lib.ListN.{length}
use lib.Dec.{ltb}
use borrow.Author.Tests.{le-leb, lt-ltb}
use Rattle.std.proofs.Common.{Ok}
use Rattle.wire.specs.Frame.{Item, items, checked, Sized}
use Rattle.wire.proofs.Places.{taken}
use Rattle.wire.proofs.Order.{leads, few-items, few-from}
use Rattle.pieces.specs.Pieces.{bundle_max}
use Rattle.rows.specs.Message.{Draft, Board, Handed, step, messages_from}
use Rattle.messages.specs.declared.Limits.{Limits}
use Rattle.receiver.specs.Receive.{Reply, delivered, treat}
use Rattle.messages.specs.Run.{Run, progressed, advanced, run}
use Rattle.receiver.specs.Steps.{answer_of}
use Rattle.rows.specs.Origin.{Origin}

abbrev pub reply_of : Run → Reply
reply_of p = record { answer = Ok (answer_of p.progress); board = p.board; output = p.output }

-- no bundle is out, and k messages are treated
abbrev unstarted : ℕ → Board → List ℕ → List ℕ → List ℕ → ℕ → Origin → Run
unstarted k b output lengths numbers next origin =
    record { board = b; output = output; lengths = lengths; numbers = numbers; progress = record { treated = k; count = 0; used = 0; next = next; origin = origin } }

abbrev pub once : ℕ → Limits
once most = record { messages = most; bundles = 1 }

and-false : (a b : Bool) → b ≡ false → (a && b) ≡ false
and-false true b e = e
and-false false b e = refl

module _ (D : Draft) (w : ℕ) (most : ℕ) (lengths numbers : List ℕ) where
  -- a bundle is out: the limit is reached
  full : (p : Run) (is : List Item) → p.progress.count ≡ 1 → run w D.order (once most) p is ≡ p
  unfolding run
  full p [] e = refl
  full p (i ∷ is) e = rw (e, and-false (ltb p.progress.treated most) false refl)

  one-turn : (k : ℕ) (b b' : Board) (x : Option Handed) (at : ℕ) (is : List Item) (output : List ℕ) (next : ℕ) (origin : Origin)
      → reply_of (run w D.order (once most) (unstarted (k + 1) b' output lengths numbers at origin) is) ≡ treat D w b' is output
      → reply_of (run w D.order (once most) (advanced (unstarted k b output lengths numbers next origin) b' at x) is) ≡ delivered x b' at output (treat D w b' is output)
  unfolding advanced progressed delivered answer_of
  one-turn k b b' none at is output next origin later = later
  one-turn k b b' (some h) at is output next origin later = rw (full (advanced (unstarted k b output lengths numbers next origin) b' at (some h)) is refl, zero-add)

  pub one-bundle : (k : ℕ) (b : Board) (is : List Item) (output : List ℕ) (next : ℕ) (origin : Origin) → bundle_max ≤ length output → k + length is ≤ most
      → reply_of (run w D.order (once most) (unstarted k b output lengths numbers next origin) is) ≡ treat D w b is output
  unfolding run treat answer_of
  one-bundle k b [] output next origin h few = refl
  one-bundle k b (i ∷ is) output next origin h few =
      let o = step w D.order b i.message in
      rw (lt-ltb k most (omega arith), sub-zero, le-leb bundle_max (length output) h) (one-turn k b o.board o.handed i.next is output next origin (one-bundle (k + 1) o.board is output i.next origin h (omega arith)))

-- a frame has no more messages than octets
pub few_messages : (D : Draft) → ((xs : List ℕ) → Sized (length xs) (D.read xs)) → (frame : List ℕ) (place : ℕ) → checked D.read frame place ≡ Ok (tt {0}) → length (messages_from D frame place) ≤ length frame
unfolding messages_from items
few_messages D M frame place e =
    let t = taken D.read M frame place e in
    rw t.whole (omega (arith, few-from place t.items, few-items 0 (length frame) t.items (leads D.read M frame t.items t.whole)))
