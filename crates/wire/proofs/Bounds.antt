-- What a frame names lies within bounds: a bad message starts within the frame, and in a frame of octets a transfer number has 32 bits.
use mathlib.Core.Path.{◌≡◌}
use mathlib.Core.Bool.{Bool, true, false, cond, ◌||◌}
use mathlib.Core.List.{List, [], ◌∷◌}
use Prim.Native.Nat.{ℕ, zero, suc, ◌+◌, ◌-◌, ◌≤◌, ◌<◌, ◌^◌}
use native.Mathlib.Omega.{arith}
use lib.ListN.{length, take, drop, length-drop}
use lib.Dec.{eqb}
use Rattle.octets.specs.Octets.{Octets}
use Rattle.octets.proofs.Numbers.{octets_drop, octets_take, number-low}
use Rattle.octets.proofs.Flags.{cond_elim}
use Rattle.std.proofs.Common.{Err, Ok}
use Rattle.wire.specs.declared.Rejection.TheVariants.{Malformed, Misplaced}
use Rattle.wire.specs.declared.Version.{Version}
use Rattle.wire.specs.declared.Kind.{Kind}
use Rattle.wire.specs.declared.Kind.TheVariants.{Skipped, Bundle, Segment, End, Cancel}
use Rattle.wire.specs.declared.Fault.{Fault}
use Rattle.wire.specs.Message.{Message, skipped, bundle, segment, last, cancel, Read, bad, good, kind, content_length}
use Rattle.wire.specs.Layout.{message, read}
use Rattle.wire.specs.Frame.{Item, Scan, broken, row, items, prepend, follow, scan, scanned, from, starts, judged, checked}
use Rattle.wire.proofs.Apart.{row-broken, accepted-malformed}
use Rattle.wire.proofs.Spans.{Holds, refused, holds, holds_read}

-- ---- a bad message

prepend_broken : (i : Item) (s : Scan) (q : Fault) (at : ℕ) → prepend i s ≡ broken q at → s ≡ broken q at
unfolding prepend
prepend_broken i (broken r p) q at e = e
prepend_broken i (row is) q at e = row-broken e

-- a scan breaks between the position p and the end e
abbrev Between : ℕ → ℕ → Scan → Type 0
Between p e s = (q : Fault) (at : ℕ) → s ≡ broken q at → (p ≤ at) × (at < e)

between-follow : (p e : ℕ) (r : Read) (rest : ℕ → Scan) → p < e → ((s : ℕ) → Between p e (rest s)) → Between p e (follow p r rest)
unfolding follow
between-follow p e (bad r) rest h later q at z = let same : p ≡ at = cc in omega arith
between-follow p e (good m s) rest h later q at z = later s q at (prepend_broken _ (rest s) q at z)

between_scan : (reader : List ℕ → Read) (n p : ℕ) (xs : List ℕ) → Between p (p + length xs) (scan reader n p xs)
unfolding scan
between_scan reader zero p xs q at e = row-broken e
between_scan reader (suc n) p [] q at e = row-broken e
between_scan reader (suc n) p (x ∷ xs) q at e =
    between-follow p (p + suc (length xs)) (reader (x ∷ xs)) (λ s. scan reader n (p + s) (drop s (x ∷ xs))) (omega arith)
    (λ s q at e. omega (arith, length-drop s (x ∷ xs), between_scan reader n (p + s) (drop s (x ∷ xs)) q at e)) q at e

judged_broken : (end : Bool) (place : ℕ) (s : Scan) (q : Fault) (at : ℕ) → judged end place s ≡ Err (Malformed q at) → s ≡ broken q at
unfolding judged
judged_broken end place (broken r p) q at e = cc
judged_broken end place (row is) q at e = go (end || starts place is) e
  where
    go : (b : Bool) → cond b (Ok (tt {0})) (Err Misplaced) ≡ Err (Malformed q at) → row is ≡ broken q at
    go true e = accepted-malformed e
    go false e = absurd (let z : ◌≡◌ {A = ℕ} 0 1 = cc in omega arith)

pub bad_within : (reader : List ℕ → Read) (frame : List ℕ) (place : ℕ) (q : Fault) (at : ℕ) → checked reader frame place ≡ Err (Malformed q at) → at < length frame
unfolding checked scanned
bad_within reader frame place q at e =
    omega (arith, between_scan reader (length frame) 0 frame q at (judged_broken (eqb place (length frame)) place (scanned reader frame) q at e))

-- ---- transfer numbers

-- a transfer message's number has 32 bits
unfoldable pub Low : Message → Type 0
Low skipped = Unit {0}
Low (bundle xs) = Unit {0}
Low (segment n i xs) = n < 2 ^ 32
Low (last n i xs) = n < 2 ^ 32
Low (cancel n) = n < 2 ^ 32

unfoldable pub LowRead : Read → Type 0
LowRead (bad r) = Unit {0}
LowRead (good m s) = Low m

unfoldable pub LowItems : List Item → Type 0
LowItems [] = Unit {0}
LowItems (i ∷ is) = Low i.message × LowItems is

low-message : (k : Kind) (xs : List ℕ) → Octets xs → Low (message k xs)
unfolding Low message
low-message Skipped xs low = tt
low-message Bundle xs low = tt
low-message Segment xs low = number-low xs low
low-message End xs low = number-low xs low
low-message Cancel xs low = number-low xs low

low-holds : (xs : List ℕ) (r : Read) → Octets xs → Holds xs r → LowRead r
unfolding LowRead
low-holds xs (bad r) low refused = tt
low-holds xs (good m s) low (holds h) =
    let n = content_length m in
    rw h.means (low-message (kind m) (take n (drop (s - n) xs)) (octets_take n (drop (s - n) xs) (octets_drop (s - n) xs low)))

pub read_low : (v : Version) (xs : List ℕ) → Octets xs → LowRead (read v xs)
read_low v xs low = low-holds xs (read v xs) low (holds_read v xs)

low-prepend : (i : Item) (s : Scan) → Low i.message → LowItems (items s) → LowItems (items (prepend i s))
unfolding LowItems items prepend
low-prepend i (broken r p) l rest = tt
low-prepend i (row is) l rest = (l, rest)

low-follow : (p : ℕ) (r : Read) (rest : ℕ → Scan) → LowRead r → ((s : ℕ) → LowItems (items (rest s))) → LowItems (items (follow p r rest))
unfolding LowRead LowItems items follow
low-follow p (bad r) rest l later = tt
low-follow p (good m s) rest l later = low-prepend _ (rest s) l (later s)

module _ (reader : List ℕ → Read) (low_read : (xs : List ℕ) → Octets xs → LowRead (reader xs)) where
  low_scan : (n p : ℕ) (xs : List ℕ) → Octets xs → LowItems (items (scan reader n p xs))
  unfolding LowItems items scan
  low_scan zero p xs low = tt
  low_scan (suc n) p [] low = tt
  low_scan (suc n) p (x ∷ xs) low =
      low-follow p (reader (x ∷ xs)) (λ s. scan reader n (p + s) (drop s (x ∷ xs))) (low_read (x ∷ xs) low)
      λ s. low_scan n (p + s) (drop s (x ∷ xs)) (octets_drop s (x ∷ xs) low)

  pub low-items : (frame : List ℕ) → Octets frame → LowItems (items (scanned reader frame))
  unfolding scanned
  low-items frame low = low_scan (length frame) 0 frame low

pub low-from : (p : ℕ) (is : List Item) → LowItems is → LowItems (from p is)
unfolding LowItems from
low-from p [] l = l
low-from p (i ∷ is) l = cond_elim LowItems (eqb i.start p) (λ _. l) (λ _. low-from p is l.1)
