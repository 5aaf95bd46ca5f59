-- The burst call's answer for hosts in other languages: a number, an array of five numbers, and the image of the state.
use Rattle.std.specs.Prelude.{List, [], ◌∷◌, ℕ, Result, Ok, Err}
use Rattle.rows.specs.declared.State.{State}
use Rattle.burst.specs.declared.Refusal.{Refusal}
use Rattle.burst.specs.declared.Taken.{Taken}
use Rattle.burst.specs.Burst.{refusal_number}
use Rattle.images.specs.Receiver.{image_of}

-- 0, or the refusal's number
abbrev pub status : Result Taken Refusal → ℕ
status (Ok taken) = 0
status (Err q) = refusal_number q

-- bundles and their octets, the frame and the place where the next call goes on, frames refused; all stay if the call is refused
unfoldable pub report : Result Taken Refusal → List ℕ → List ℕ
report (Ok taken) result = taken.bundles ∷ taken.octets ∷ taken.frame ∷ taken.place ∷ taken.refused ∷ []
report (Err q) result = result

-- a refused call leaves the image
unfoldable pub kept : Result Taken Refusal → List ℕ → State → List ℕ
kept (Ok taken) image state = image_of state
kept (Err q) image state = image
