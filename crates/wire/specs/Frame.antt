-- A frame as a row of messages, and its good places (document 01, "Receiving call").
use Rattle.std.specs.Prelude.{Bool, false, cond, ◌||◌, List, [], ◌∷◌, map, ℕ, zero, suc, ◌+◌, ◌≤◌, ◌<◌, length, drop, eqb, Err, Ok, Result}
use Rattle.wire.specs.declared.Span.{Span}
use Rattle.wire.specs.declared.Rejection.{Rejection}
use Rattle.wire.specs.declared.Rejection.TheVariants.{Malformed, Misplaced}
use Rattle.wire.specs.declared.Fault.{Fault}
use Rattle.wire.specs.Message.{Message, Read, bad, good}

-- the most octets of a frame
abbrev pub frame_max : ℕ
frame_max = 2048

-- A message in its frame.
pub record Item : Type 0 where
  pub start : ℕ
  pub next : ℕ
  pub message : Message

-- The frame's first bad message, or all its messages.
pub data Scan : Type 0 where
  broken : Fault → ℕ → Scan
  row : List Item → Scan

unfoldable pub prepend : Item → Scan → Scan
prepend i (broken r p) = broken r p
prepend i (row is) = row (i ∷ is)

unfoldable pub items : Scan → List Item
items (broken r p) = []
items (row is) = is

-- What is read at position p, and for a good message the scan of what follows its size.
unfoldable pub follow : ℕ → Read → (ℕ → Scan) → Scan
follow p (bad r) rest = broken r p
follow p (good m size) rest = prepend (record { start = p; next = p + size; message = m }) (rest size)

unfoldable pub starts : ℕ → List Item → Bool
starts p [] = false
starts p (i ∷ is) = eqb i.start p || starts p is

-- A place is good if it is the frame's length, which `end` says, or a message's start.
unfoldable pub judged : Bool → ℕ → Scan → Result (Unit {0}) Rejection
judged end place (broken r p) = Err (Malformed r p)
judged end place (row is) = cond (end || starts place is) (Ok tt) (Err Misplaced)

-- A message takes at least one octet, and no more than there are.
pub data Sized (room : ℕ) : Read → Type 0 where
  none : {r : Fault} → Sized room (bad r)
  some : {m : Message} {s : ℕ} → 0 < s → s ≤ room → Sized room (good m s)

-- The draft decides how a message is read.
module _ (reader : List ℕ → Read) where
  -- the octets xs stand at position p; the first argument is at least the number of messages
  unfoldable pub scan : ℕ → ℕ → List ℕ → Scan
  scan zero p xs = row []
  scan (suc n) p [] = row []
  scan (suc n) p (x ∷ xs) = follow p (reader (x ∷ xs)) (λ size. scan n (p + size) (drop size (x ∷ xs)))

  unfoldable pub scanned : List ℕ → Scan
  scanned frame = scan (length frame) 0 frame

  unfoldable pub checked : List ℕ → ℕ → Result (Unit {0}) Rejection
  checked frame place = judged (eqb place (length frame)) place (scanned frame)

  unfoldable pub messages : List ℕ → List Message
  messages frame = map (λ (i : Item). i.message) (items (scanned frame))

-- the messages from a place on
unfoldable pub from : ℕ → List Item → List Item
from p [] = []
from p (i ∷ is) = cond (eqb i.start p) (i ∷ is) (from p is)

-- what one reading says of its frame
abbrev pub reading_checked : Result Span Fault → ℕ → Result (Unit {0}) Rejection
reading_checked (Ok s) at = Ok tt
reading_checked (Err fault) at = Err (Malformed fault at)
