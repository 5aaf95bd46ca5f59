-- The receiver for hosts in other languages: its calls on images of its state, its answer as a number and an array of four numbers.
use Rattle.std.specs.Prelude.{cond, ◌&&◌, List, ℕ}
use Rattle.wire.specs.declared.Version.{Version}
use Rattle.window.specs.Window.{is_window}
use Rattle.rows.specs.State.{sound, fresh}
use Rattle.receiver.specs.Receive.{Reply, receive}
use Rattle.answers.specs.Receiver.{status, report, kept}
use Rattle.images.specs.Receiver.{is_image, state_of, image_of}

-- what a call returns, 0 or the refusal, and what it leaves of the image, the pool, the output and the result
pub record Exported : Type 0 where
  pub status : ℕ
  pub image : List ℕ
  pub pool : List ℕ
  pub output : List ℕ
  pub result : List ℕ

unfoldable pub exported : Reply → List ℕ → List ℕ → Exported
exported r image result =
    record {
      status = status r.answer;
      image = kept r.answer image r.board.state;
      pool = r.board.pool;
      output = r.output;
      result = report r.answer result;
    }

-- octets that are no image are refused as an unsound state
unfoldable pub received : List ℕ → List ℕ → List ℕ → ℕ → List ℕ → List ℕ → Exported
received image pool frame place output result =
    cond (is_image image)
    (exported (receive (record { state = state_of image; pool = pool }) frame place output) image result)
    (record { status = 1; image = image; pool = pool; output = output; result = result })

-- what a start of a draft returns, and the image that it leaves: "4, 8 or 16, chosen at start ..., else refusal 21" (document 02, E6)
unfoldable pub started : Version → List ℕ → ℕ → ℕ × List ℕ
started v image w = cond (is_window w) (0, image_of (fresh v w)) (21, image)

-- 0, or 1 for octets that are not the image of a sound state
unfoldable pub checked : List ℕ → ℕ
checked image = cond (is_image image && sound (state_of image)) 0 1
