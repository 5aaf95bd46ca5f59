-- The sender for hosts in other languages: its calls on images of its state, its answer as a number and the first entry of an array.
use Rattle.std.specs.Prelude.{cond, ◌&&◌, List, ℕ}
use Rattle.wire.specs.declared.Version.{Version}
use Rattle.framing.specs.Answers.{Outcome}
use Rattle.sender.specs.Answers.{StartReply, made, denied}
use Rattle.sender.specs.Sound.{sound}
use Rattle.sender.specs.Calls as Calls
use Rattle.answers.specs.Sender.{status, report, kept}
use Rattle.images.specs.Sender.{is_image, state_of, image_of}

-- what a call returns, 0 or the refusal's number, and what it leaves of the image, the frame buffer and the result
pub record Exported : Type 0 where
  pub status : ℕ
  pub image : List ℕ
  pub frame : List ℕ
  pub result : List ℕ

unfoldable pub exported : Outcome → List ℕ → List ℕ → Exported
exported o image result = record { status = status o.answer; image = kept o.answer image o.state; frame = o.frame; result = report o.answer result }

-- octets that are no image are refused as an unsound state
unfoldable pub unless_image : List ℕ → List ℕ → List ℕ → Exported → Exported
unless_image image frame result e = cond (is_image image) e (record { status = 1; image = image; frame = frame; result = result })

unfoldable pub placed_by : List ℕ → List ℕ → List ℕ → List ℕ → Exported
placed_by image bundle frame result = unless_image image frame result (exported (Calls.place (state_of image) bundle frame) image result)

unfoldable pub cancelled_by : List ℕ → List ℕ → List ℕ → Exported
cancelled_by image frame result = unless_image image frame result (exported (Calls.cancel (state_of image) frame) image result)

unfoldable pub flushed_by : List ℕ → List ℕ → List ℕ → Exported
flushed_by image frame result = unless_image image frame result (exported (Calls.flush (state_of image) frame) image result)

unfoldable pub started_with : StartReply → List ℕ → ℕ × List ℕ
started_with (made s) image = (0, image_of s)
started_with (denied n) image = (n, image)

unfoldable pub started : Version → List ℕ → ℕ → ℕ → ℕ × List ℕ
started v image size first = started_with (Calls.start v size first) image

-- 0, or 1 for octets that are not the image of a sound state
unfoldable pub checked : List ℕ → ℕ
checked image = cond (is_image image && sound (state_of image)) 0 1
