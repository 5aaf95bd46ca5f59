-- Demand 1 for the exported calls, in the order of include/btpu.h: whatever a call returns other than 0, it leaves all that it was lent as
-- it was. The two checks are lent nothing to write.
use Rattle.std.specs.Prelude.{◌≡◌, false, List, ℕ, get_or}
use Rattle.wire.specs.declared.Version.{Version}
use Rattle.window.specs.Window.{is_window}
use Rattle.playback.specs.Call.{Results}
use Rattle.board.specs.Receiver as Receiver
use Rattle.board.specs.Receiver.{received}
use Rattle.burst.specs.Burst.{Lists}
use Rattle.board.specs.Burst as Bursts
use Rattle.board.specs.Burst.{burst}
use Rattle.board.specs.Sender as Sender
use Rattle.board.specs.Sender.{placed_by, cancelled_by, flushed_by, started}
use Rattle.board.specs.Recordings.{Recorded, recorded, Opened, opened, Played, played}

-- a call of the sender that returns other than 0 leaves image, frame and result
abbrev pub SenderUnchanged : List ℕ → List ℕ → List ℕ → Sender.Exported → Type 0
SenderUnchanged image frame result e =
    (e.status ≡ 0 → ⊥) → e ≡ record { status = e.status; image = image; frame = frame; result = result }

-- document 01 of its numbers of refusal: "Each is given exactly in its case, the first that applies in this order, and changes no state
-- and no lent memory."
pub record RefusedUnchanged : Type 0 where
  -- btpu_receiver_start, btpu_receiver_start_window, btpu_receiver_start_00
  pub receiver_start : (v : Version) (image : List ℕ) (w : ℕ)
      → let e : ℕ × List ℕ = Receiver.started v image w in
      (e.0 ≡ 0 → ⊥) → e.1 ≡ image
  -- btpu_receive
  pub receive : (image pool frame : List ℕ) (place : ℕ) (output result : List ℕ)
      → let e : Receiver.Exported = received image pool frame place output result in
      (e.status ≡ 0 → ⊥) → e ≡ record { status = e.status; image = image; pool = pool; output = output; result = result }
  -- btpu_receive_burst
  pub receive_burst : (image pool sizes octets : List ℕ) (frame place : ℕ) (l : Lists) (result : List ℕ)
      → let e : Bursts.Exported = burst image pool sizes octets frame place l result in
      (e.status ≡ 0 → ⊥) → e ≡ record { status = e.status; image = image; pool = pool; lists = l; result = result }
  -- btpu_sender_start, btpu_sender_start_00
  pub sender_start : (v : Version) (image : List ℕ) (size first : ℕ)
      → let e : ℕ × List ℕ = started v image size first in
      (e.0 ≡ 0 → ⊥) → e.1 ≡ image
  -- btpu_place
  pub place : (image bundle frame result : List ℕ) → SenderUnchanged image frame result (placed_by image bundle frame result)
  -- btpu_cancel
  pub cancel : (image frame result : List ℕ) → SenderUnchanged image frame result (cancelled_by image frame result)
  -- btpu_flush
  pub flush : (image frame result : List ℕ) → SenderUnchanged image frame result (flushed_by image frame result)
  -- btpu_record
  pub write_recording : (sizes octets output result : List ℕ)
      → let e : Recorded = recorded sizes octets output result in
      (e.status ≡ 0 → ⊥) → e ≡ record { status = e.status; output = output; result = result }
  -- btpu_recording_open
  pub open_recording : (recording sizes result : List ℕ)
      → let e : Opened = opened recording sizes result in
      (e.status ≡ 0 → ⊥) → e ≡ record { status = e.status; sizes = sizes; result = result }
  -- btpu_play
  pub play : (recording : List ℕ) (limit : ℕ) (pool : List ℕ) (r : Results) (result : List ℕ)
      → let e : Played = played recording limit pool r result in
      (e.status ≡ 0 → ⊥) → e ≡ record { status = e.status; pool = pool; results = r; result = result }

-- "kept in the state, else refusal 21, in a state 1" (document 02, E6): an image whose octet BTPU_RECEIVER_WINDOW is not 4, 8 or 16 is refused with 1, and
-- all that was lent stays. Images that were stored before windows could be chosen have 0 there.
pub record NoWindowRefused : Type 0 where
  -- btpu_receiver_check
  pub check : (image : List ℕ) → is_window (get_or image 1 0) ≡ false → Receiver.checked image ≡ 1
  -- btpu_receive
  pub receive : (image pool frame : List ℕ) (place : ℕ) (output result : List ℕ) → is_window (get_or image 1 0) ≡ false
      → received image pool frame place output result ≡ record { status = 1; image = image; pool = pool; output = output; result = result }
  -- btpu_receive_burst
  pub receive_burst : (image pool sizes octets : List ℕ) (frame place : ℕ) (l : Lists) (result : List ℕ) → is_window (get_or image 1 0) ≡ false
      → burst image pool sizes octets frame place l result ≡ record { status = 1; image = image; pool = pool; lists = l; result = result }
