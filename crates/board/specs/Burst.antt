-- The burst call for hosts in other languages: on an image of the receiver's state, its answer as a number and an array of five numbers.
use Rattle.std.specs.Prelude.{cond, List, ℕ}
use Rattle.rows.specs.State.{window_of}
use Rattle.rows.specs.Message.{draft_of}
use Rattle.burst.specs.Burst.{Lists, Reply, receive_burst}
use Rattle.answers.specs.Burst.{status, report, kept}
use Rattle.images.specs.Receiver.{is_image, state_of}

-- what a call returns, 0 or the refusal, and what it leaves of the image, the pool, the lists and the result
pub record Exported : Type 0 where
  pub status : ℕ
  pub image : List ℕ
  pub pool : List ℕ
  pub lists : Lists
  pub result : List ℕ

unfoldable pub exported : Reply → List ℕ → List ℕ → Exported
exported r image result =
    record {
      status = status r.answer;
      image = kept r.answer image r.board.state;
      pool = r.board.pool;
      lists = r.lists;
      result = report r.answer result;
    }

-- octets that are no image are refused as an unsound state
unfoldable pub burst : List ℕ → List ℕ → List ℕ → List ℕ → ℕ → ℕ → Lists → List ℕ → Exported
burst image pool sizes octets frame place l result =
    cond (is_image image)
    (exported (receive_burst (draft_of (state_of image)) (window_of (state_of image)) (record { state = state_of image; pool = pool }) sizes octets frame place l) image result)
    (record { status = 1; image = image; pool = pool; lists = l; result = result })
