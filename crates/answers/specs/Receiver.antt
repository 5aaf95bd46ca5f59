-- The receiver's answer for hosts in other languages: a number, an array of four numbers, and the image of the state.
use Rattle.std.specs.Prelude.{List, [], ◌∷◌, ℕ, ◌+◌, ◌*◌, ◌/◌, ◌%◌, set, Err, Ok, Result}
use Rattle.rows.specs.declared.State.{State}
use Rattle.receiver.specs.declared.Answer.{Answer}
use Rattle.receiver.specs.declared.Answer.TheVariants.{Delivered, Finished}
use Rattle.receiver.specs.declared.Refusal.{Refusal}
use Rattle.messages.specs.Run.{origin_number}
use Rattle.receiver.specs.Receive.{refusal_number, refusal_place, named}
use Rattle.images.specs.Receiver.{image_of}

-- the refusal's number in the low 8 bits, and the place that it names in the bits above
abbrev pub code : Refusal → ℕ
code refusal = refusal_number refusal + named (refusal_place refusal) * 256

-- taken apart again, as BTPU_REFUSAL and BTPU_REFUSAL_PLACE of btpu.h do
abbrev pub number_in : ℕ → ℕ
number_in returned = returned % 256

abbrev pub place_in : ℕ → ℕ
place_in returned = returned / 256

-- 0, or the refusal
abbrev pub status : Result Answer Refusal → ℕ
status (Ok (Delivered length next origin)) = 0
status (Ok Finished) = 0
status (Err refusal) = code refusal

-- the place that a refusal names
abbrev pub place : Result Answer Refusal → ℕ
place (Ok (Delivered length next origin)) = 0
place (Ok Finished) = 0
place (Err refusal) = named (refusal_place refusal)

-- 1, length, next place and number for a bundle; 0 for Finished. Other entries stay, and all if the call is refused.
unfoldable pub report : Result Answer Refusal → List ℕ → List ℕ
report (Ok (Delivered length next origin)) result = 1 ∷ length ∷ next ∷ origin_number origin ∷ []
report (Ok Finished) result = set result 0 0
report (Err refusal) result = result

-- a refused call leaves the image
unfoldable pub kept : Result Answer Refusal → List ℕ → State → List ℕ
kept (Ok (Delivered length next origin)) image state = image_of state
kept (Ok Finished) image state = image_of state
kept (Err refusal) image state = image
