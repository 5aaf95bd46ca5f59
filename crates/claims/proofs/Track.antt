-- What the messages of one honest record make of a board, number by number: how far the window has come along the record's numbers and, for
-- each number, the indexes held. The board of the definitions is tied to this one in Boards.antt; the claims are about this one.
use mathlib.Core.Path.{◌≡◌, refl}
use mathlib.Core.Bool.{Bool, true, false, cond, ◌&&◌}
use mathlib.Core.Logic.{◌⊎◌, inl, inr}
use mathlib.Core.List.{List, [], ◌∷◌, ◌++◌}
use Prim.Native.Nat.{ℕ, suc, ◌+◌, max}
use lib.ListN.{length}
use lib.Dec.{leb, eqb}
use borrow.Author.Tests.{eqb-true, eqb-false, eq-eqb}
use Rattle.std.proofs.Common.{None, Some}
use Rattle.octets.proofs.Flags.{bool}
use Rattle.wire.specs.Message.{Message, skipped, bundle, segment, last, cancel}
use Rattle.window.specs.Window.{distance}
use Rattle.pieces.specs.declared.Order.{Order}
use Rattle.pieces.specs.Pieces.{has, has_all}
use Rattle.claims.specs.Record.{Transfers, number_at}
use Rattle.claims.specs.Calls.{Delivery}
use Rattle.claims.specs.Demand3.{join, delivery}

-- ---- one number

pub data Track : Type 0 where
  live : List ℕ → Track
  whole stopped : Track

unfoldable pub settled : ℕ → List ℕ → Track
settled n is = cond (has_all n is) whole (live is)

-- piece i of n comes
unfoldable pub add : ℕ → ℕ → Track → Track
add n i (live is) = cond (has i is) (live is) (settled n (is ++ i ∷ []))
add n i whole = whole
add n i stopped = stopped

-- a cancel comes
unfoldable pub stop : Track → Track
stop (live is) = stopped
stop whole = whole
stop stopped = stopped

-- the bundle is handed out
unfoldable pub newly : Track → Track → Bool
newly (live is) (live js) = false
newly (live is) whole = true
newly (live is) stopped = false
newly whole t = false
newly stopped t = false

pub stop_quiet : (x : Bool) (t : Track) → (x && newly t (stop t)) ≡ false
unfolding newly stop
stop_quiet false t = refl
stop_quiet true (live is) = refl
stop_quiet true whole = refl
stop_quiet true stopped = refl

-- ---- all numbers

-- `bound` is one more than the greatest place, 0 at first
pub record Course : Type 0 where
  pub bound : ℕ
  pub tracks : ℕ → Track

unfoldable pub begin : Course
begin = record { bound = 0; tracks = λ k. live [] }

unfoldable pub change : (ℕ → Track) → ℕ → Track → ℕ → Track
change ts k t j = cond (eqb j k) t (ts j)

-- what holds of t at k, and elsewhere of what stood there
pub change_elim : (P : ℕ → Track → Type 0) (ts : ℕ → Track) (k : ℕ) (t : Track) → P k t → ((j : ℕ) → (j ≡ k → ⊥) → P j (ts j)) → (j : ℕ) → P j (change ts k t j)
unfolding change
change_elim P ts k t here there j = go (bool (eqb j k))
  where
    go : (eqb j k ≡ true) ⊎ (eqb j k ≡ false) → P j (cond (eqb j k) t (ts j))
    go (inl e) = rw (e, eqb-true j k e) here
    go (inr e) = rw e (there j (eqb-false j k e))

pub change_same : (ts : ℕ → Track) (k : ℕ) (t : Track) → change ts k t k ≡ t
unfolding change
change_same ts k t = rw (eq-eqb k k refl)

abbrev pub touched : Course → ℕ → Track → Course
touched a k t = record { bound = max a.bound (suc k); tracks = change a.tracks k t }

-- number k, within the window of w or new, comes to t
unfoldable pub touch : ℕ → Course → ℕ → Track → Course
touch w a k t = cond (leb a.bound (k + w)) (touched a k t) a

pub data Event : Type 0 where
  quiet : Event
  hands : List ℕ → Event
  comes : ℕ → ℕ → Event
  stops : ℕ → Event

unfoldable pub event : ℕ → Message → Event
event first skipped = quiet
event first (bundle c) = hands c
event first (segment t i d) = comes (distance first t) i
event first (last t i d) = comes (distance first t) i
event first (cancel t) = stops (distance first t)

unfoldable pub bundle_at : Order → Transfers → ℕ → Delivery
bundle_at order T k = delivery (Some (number_at T k)) (join order (T.pieces k))

-- a board of window w over a record's transfers
module _ (order : Order) (w : ℕ) (T : Transfers) where
  abbrev pub grown : Course → ℕ → ℕ → Track
  grown a k i = add (length (T.pieces k)) i (a.tracks k)

  unfoldable pub after_event : Course → Event → Course
  after_event a quiet = a
  after_event a (hands c) = a
  after_event a (comes k i) = touch w a k (grown a k i)
  after_event a (stops k) = touch w a k (stop (a.tracks k))

  unfoldable pub hands_out : Course → Event → List Delivery
  hands_out a quiet = []
  hands_out a (hands c) = delivery None c ∷ []
  hands_out a (comes k i) = cond (leb a.bound (k + w) && newly (a.tracks k) (grown a k i)) (bundle_at order T k ∷ []) []
  hands_out a (stops k) = []

  abbrev pub next : Course → Message → Course
  next a m = after_event a (event T.first m)

  abbrev pub gives : Course → Message → List Delivery
  gives a m = hands_out a (event T.first m)

  unfoldable pub course_after : Course → List Message → Course
  course_after a [] = a
  course_after a (m ∷ ms) = course_after (next a m) ms

  unfoldable pub given_by : Course → List Message → List Delivery
  given_by a [] = []
  given_by a (m ∷ ms) = gives a m ++ given_by (next a m) ms
