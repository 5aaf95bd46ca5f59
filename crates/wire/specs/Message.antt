-- A message by its meaning, and where the code finds it in a frame.
use Rattle.std.specs.Prelude.{List, ℕ, ◌+◌, ◌-◌, length, Err, Ok, Result}
use Rattle.wire.specs.declared.Kind.{Kind}
use Rattle.wire.specs.declared.Kind.TheVariants.{Skipped, Bundle, Segment, End, Cancel}
use Rattle.wire.specs.declared.Fault.{Fault}
use Rattle.wire.specs.declared.Fault.TheVariants.{ShortHeader, PastFrame, PastMessage, BadContent}
use Rattle.wire.specs.declared.Span.{Span}

-- Padding and unknown types are passed over; a segment, and the last segment, have a transfer number, an index and data.
pub data Message : Type 0 where
  skipped : Message
  bundle : List ℕ → Message
  segment : ℕ → ℕ → List ℕ → Message
  last : ℕ → ℕ → List ℕ → Message
  cancel : ℕ → Message

-- What stands at the head of some octets: a refusal, or a message and its size.
pub data Read : Type 0 where
  bad : Fault → Read
  good : Message → ℕ → Read

-- Document 01's numbers of refusal; 5 is never given.
abbrev pub fault_number : Fault → ℕ
fault_number ShortHeader = 4
fault_number PastFrame = 6
fault_number PastMessage = 7
fault_number BadContent = 8

unfoldable pub kind : Message → Kind
kind skipped = Skipped
kind (bundle xs) = Bundle
kind (segment n i xs) = Segment
kind (last n i xs) = End
kind (cancel n) = Cancel

unfoldable pub content_length : Message → ℕ
content_length skipped = 0
content_length (bundle xs) = length xs
content_length (segment n i xs) = 8 + length xs
content_length (last n i xs) = 8 + length xs
content_length (cancel n) = 4

-- A message that ends at a position: its content ends there too.
unfoldable pub span : Message → ℕ → Span
span m end = record { kind = kind m; start = end - content_length m; end = end }

-- What is read at a position of the frame, as the code answers it.
unfoldable pub answer : ℕ → Read → Result Span Fault
answer at (bad r) = Err r
answer at (good m size) = Ok (span m (at + size))
