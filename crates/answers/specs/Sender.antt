-- The sender's answer for hosts in other languages: a number, the first entry of an array, and the image of the state.
use Rattle.std.specs.Prelude.{List, ℕ, set}
use Rattle.framing.specs.declared.State.{State}
use Rattle.framing.specs.Answers.{Reply, placed, placed_and_ready, ready, nothing, refused}
use Rattle.images.specs.Sender.{image_of}

-- 0, or the refusal's number
unfoldable pub status : Reply → ℕ
status placed = 0
status placed_and_ready = 0
status ready = 0
status nothing = 0
status (refused n) = n

-- 0 Placed, 1 Placed and ready, 2 Ready, 3 Nothing; a refusal leaves the result
unfoldable pub report : Reply → List ℕ → List ℕ
report placed result = set result 0 0
report placed_and_ready result = set result 0 1
report ready result = set result 0 2
report nothing result = set result 0 3
report (refused n) result = result

-- a refused call leaves the image
unfoldable pub kept : Reply → List ℕ → State → List ℕ
kept placed image state = image_of state
kept placed_and_ready image state = image_of state
kept ready image state = image_of state
kept nothing image state = image_of state
kept (refused n) image state = image
