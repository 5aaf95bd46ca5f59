-- An image without a window is refused with 1, and all that was lent stays.
use mathlib.Core.Path.{◌≡◌, refl}
use mathlib.Core.Bool.{Bool, true, false, cond, and-false}
use mathlib.Core.List.{List}
use Prim.Native.Nat.{ℕ}
use lib.ListN.{get_or}
use Rattle.window.specs.Window.{is_window}
use Rattle.rows.specs.State.{window_of, sound}
use Rattle.rows.specs.Message.{draft_of, Board}
use Rattle.receiver.specs.declared.Refusal.TheVariants as Receiving
use Rattle.receiver.specs.Receive as Receive
use Rattle.receiver.specs.Receive.{receive}
use Rattle.receiver.proofs.Refusals as Receiver
use Rattle.burst.specs.declared.Refusal.TheVariants as Bursting
use Rattle.burst.specs.Burst as Burst
use Rattle.burst.specs.Burst.{Lists, receive_burst}
use Rattle.burst.proofs.Refusals as Bursts
use Rattle.images.specs.Receiver.{is_image, state_of}
use Rattle.answers.specs.Receiver.{report, kept}
use Rattle.answers.specs.Burst as Answered
use Rattle.board.specs.Receiver.{exported, received, checked}
use Rattle.board.specs.Burst as Exporting
use Rattle.board.specs.Burst.{burst}
use Rattle.board.specs.Refused.{NoWindowRefused}

module _ (image : List ℕ) (none : is_window (get_or image 1 0) ≡ false) where
  unsound : sound (state_of image) ≡ false
  unfolding sound state_of
  unsound = rw none

  check : checked image ≡ 1
  unfolding checked
  check = rw (unsound, and-false (is_image image))

  module _ (pool : List ℕ) where
    abbrev b : Board
    b = record { state = state_of image; pool = pool }

    refuses : (frame : List ℕ) (place : ℕ) (output result : List ℕ)
        → received image pool frame place output result ≡ record { status = 1; image = image; pool = pool; output = output; result = result }
    unfolding received exported report kept Receive.refusal
    refuses frame place output result = go (is_image image)
      where
        go : (i : Bool) → cond i (exported (receive b frame place output) image result) (record { status = 1; image = image; pool = pool; output = output; result = result })
            ≡ record { status = 1; image = image; pool = pool; output = output; result = result }
        go false = refl
        go true = rw (Receiver.refused (draft_of (state_of image)) (window_of (state_of image)) b frame place output Receiving.Unsound (rw unsound))

    refuses_burst : (sizes octets : List ℕ) (frame place : ℕ) (l : Lists) (result : List ℕ)
        → burst image pool sizes octets frame place l result ≡ record { status = 1; image = image; pool = pool; lists = l; result = result }
    unfolding burst Exporting.exported Answered.report Answered.kept Burst.refusal
    refuses_burst sizes octets frame place l result = go (is_image image)
      where
        go : (i : Bool) → cond i (Exporting.exported (receive_burst (draft_of (state_of image)) (window_of (state_of image)) b sizes octets frame place l) image result) (record { status = 1; image = image; pool = pool; lists = l; result = result })
            ≡ record { status = 1; image = image; pool = pool; lists = l; result = result }
        go false = refl
        go true = rw (Bursts.refused (draft_of (state_of image)) (window_of (state_of image)) b sizes octets frame place l Bursting.Unsound (rw unsound))

pub no_window_refused : NoWindowRefused
no_window_refused =
    record {
      check = check;
      receive = λ image pool frame place output result none. refuses image none pool frame place output result;
      receive_burst = λ image pool sizes octets frame place l result none. refuses_burst image none pool sizes octets frame place l result;
    }
