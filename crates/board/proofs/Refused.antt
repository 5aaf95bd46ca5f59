-- A refused call of an exported function changes nothing that it was lent.
use mathlib.Core.Path.{◌≡◌, refl}
use mathlib.Core.Bool.{Bool, true, false, cond}
use mathlib.Core.List.{List}
use mathlib.Core.Option.{Option, none, some}
use Prim.Native.Nat.{ℕ}
use Rattle.wire.specs.Frame.{Item}
use Rattle.window.specs.Window.{is_window}
use Rattle.wire.specs.declared.Version.{Version}
use Rattle.rows.specs.State.{window_of, fresh}
use Rattle.rows.specs.Message.{Draft, draft_of, Board, messages_from}
use Rattle.receiver.specs.Receive.{treat, receive}
use Rattle.receiver.proofs.Calls.{Called, denied, treated, called, Treated, through, stops, treating}
use Rattle.framing.specs.Answers.{Reply, placed, placed_and_ready, ready, nothing, refused, Outcome}
use Rattle.sender.specs.Answers as Answered
use Rattle.sender.specs.Answers.{is_refusal, StartReply, made}
use Rattle.sender.specs.Calls as Calls
use Rattle.sender.proofs.Refusals.{place-refused, cancel-refused, flush-refused}
use Rattle.burst.specs.declared.Refusal.{Refusal}
use Rattle.burst.specs.Burst as Spec
use Rattle.burst.specs.Burst.{Lists}
use Rattle.burst.proofs.Refusals.{refused as burst-refused, treated as burst-treated}
use Rattle.recording.specs.declared.Refusal as Reading
use Rattle.std.specs.Prelude.{Result, Ok, Err}
use Rattle.recording.specs.Recording as Recording
use Rattle.recording.specs.Recording.{Read, good, read, Wrote, write}
use Rattle.recording.proofs.Refusals.{write-refused}
use Rattle.playback.specs.declared.Played as Playing
use Rattle.playback.specs.declared.Refusal as Playback
use Rattle.playback.specs.Call as Call
use Rattle.playback.specs.Call.{Results}
use Rattle.playback.proofs.Refusals.{play-refused}
use Rattle.images.specs.Receiver.{is_image, state_of, image_of}
use Rattle.images.specs.Sender as Images
use Rattle.answers.specs.Receiver.{status, report, kept}
use Rattle.answers.specs.Burst as Answered-burst
use Rattle.answers.specs.Sender as Answers
use Rattle.board.specs.Receiver as Starts
use Rattle.board.specs.Receiver.{Exported, exported, received}
use Rattle.board.specs.Burst as Bursts
use Rattle.board.specs.Burst.{burst}
use Rattle.board.specs.Sender as Sending
use Rattle.board.specs.Sender.{unless_image, placed_by, cancelled_by, flushed_by, started_with, started}
use Rattle.board.specs.Recordings.{Recorded, written, recorded, Opened, opened_as, opened, Played, played_as, played}
use Rattle.board.specs.Refused.{SenderUnchanged, RefusedUnchanged}

abbrev width_of : List ℕ → ℕ
width_of image = window_of (state_of image)

-- ---- the receiver

module _ (image pool frame : List ℕ) (place : ℕ) (output result : List ℕ) where
  abbrev Unchanged : Exported → Type 0
  Unchanged e = (e.status ≡ 0 → ⊥) → e ≡ record { status = e.status; image = image; pool = pool; output = output; result = result }

  abbrev b : Board
  b = record { state = state_of image; pool = pool }

  abbrev D : Draft
  D = draft_of (state_of image)

  abbrev is : List Item
  is = messages_from D frame place

  -- a call that treats its frame returns 0
  treat_status : Treated D (width_of image) b is output → status (treat D (width_of image) b is output).answer ≡ 0
  treat_status (through a h q) = rw a
  treat_status (stops pre i suf h q a t hs v) = rw a

  receive-unchanged : Unchanged (received image pool frame place output result)
  unfolding received exported report kept
  receive-unchanged = go (is_image image) (called D (width_of image) b frame place output)
    where
      go : (i : Bool) → Called D (width_of image) b frame place output
          → Unchanged (cond i (exported (receive b frame place output) image result)
          (record { status = 1; image = image; pool = pool; output = output; result = result }))
      go false c n = refl
      go true (denied q e) n = rw e
      go true (treated e) n = absurd (n (rw e (treat_status (treating D (width_of image) b is output))))

receiver_start-unchanged : (v : Version) (image : List ℕ) (w : ℕ) → ((Starts.started v image w).0 ≡ 0 → ⊥) → (Starts.started v image w).1 ≡ image
unfolding Starts.started
receiver_start-unchanged v image w = go (is_window w)
  where
    go : (b : Bool) → let e : ℕ × List ℕ = cond b (0, image_of (fresh v w)) (21, image) in (e.0 ≡ 0 → ⊥) → e.1 ≡ image
    go true n = absurd (n refl)
    go false n = refl

-- ---- the burst

module _ (image pool sizes octets : List ℕ) (frame place : ℕ) (l : Lists) (result : List ℕ) where
  abbrev BurstUnchanged : Bursts.Exported → Type 0
  BurstUnchanged e = (e.status ≡ 0 → ⊥) → e ≡ record { status = e.status; image = image; pool = pool; lists = l; result = result }

  abbrev on : Board
  on = record { state = state_of image; pool = pool }

  abbrev bursting : Draft
  bursting = draft_of (state_of image)

  burst-unchanged : BurstUnchanged (burst image pool sizes octets frame place l result)
  unfolding burst Bursts.exported Answered-burst.report Answered-burst.kept
  burst-unchanged = go (is_image image) (Spec.refusal bursting (width_of image) on sizes octets frame place l.output) refl
    where
      go : (i : Bool) (q : Option Refusal) → Spec.refusal bursting (width_of image) on sizes octets frame place l.output ≡ q
          → BurstUnchanged (cond i (Bursts.exported (Spec.receive_burst bursting (width_of image) on sizes octets frame place l) image result)
          (record { status = 1; image = image; pool = pool; lists = l; result = result }))
      go false q e n = refl
      go true (some q) e n = rw (burst-refused bursting (width_of image) on sizes octets frame place l q e)
      go true none e n = absurd (n (rw (burst-treated bursting (width_of image) on sizes octets frame place l e)))

-- ---- the sender

-- a call leaves image, frame and result where it is refused, if its outcome leaves the frame
outcome-unchanged : (image frame result : List ℕ) (o : Outcome) → (is_refusal o.answer ≡ true → o.frame ≡ frame)
    → SenderUnchanged image frame result (unless_image image frame result (Sending.exported o image result))
unfolding unless_image Sending.exported Answers.status Answers.report Answers.kept is_refusal
outcome-unchanged image frame result o keeps = go (Images.is_image image) o.answer refl
  where
    go : (i : Bool) (a : Reply) → o.answer ≡ a
        → SenderUnchanged image frame result (cond i (Sending.exported o image result)
        (record { status = 1; image = image; frame = frame; result = result }))
    go false a e n = refl
    go true placed e n = absurd (n (rw e))
    go true placed_and_ready e n = absurd (n (rw e))
    go true ready e n = absurd (n (rw e))
    go true nothing e n = absurd (n (rw e))
    go true (refused k) e n = rw (e, keeps (rw e))

start-unchanged : (image : List ℕ) (r : StartReply) → ((started_with r image).0 ≡ 0 → ⊥) → (started_with r image).1 ≡ image
unfolding started_with
start-unchanged image (made s) n = absurd (n refl)
start-unchanged image (Answered.denied k) n = refl

-- ---- recordings

module _ (sizes octets output result : List ℕ) where
  abbrev w : Wrote
  w = write (record { lengths = sizes; octets = octets }) output

  written-unchanged : (a : Result ℕ Reading.Refusal) → w.answer ≡ a → let e : Recorded = written a w.output result in
      (e.status ≡ 0 → ⊥) → e ≡ record { status = e.status; output = output; result = result }
  unfolding written
  written-unchanged (Ok k) e n = absurd (n refl)
  written-unchanged (Err q) e n = rw (write-refused (record { lengths = sizes; octets = octets }) output q e)

opened-unchanged : (r : Read) (sizes result : List ℕ) → let e : Opened = opened_as r sizes result in
    (e.status ≡ 0 → ⊥) → e ≡ record { status = e.status; sizes = sizes; result = result }
unfolding opened_as
opened-unchanged (Recording.refused q) sizes result n = refl
opened-unchanged (good t) sizes result n = absurd (n refl)

module _ (recording : List ℕ) (limit : ℕ) (pool : List ℕ) (r : Results) (result : List ℕ) where
  abbrev p : Call.Reply
  p = Call.play recording limit pool r

  played-unchanged : (a : Result Playing.Played Playback.Refusal) → p.answer ≡ a → let e : Played = played_as a p.pool p.results result in
      (e.status ≡ 0 → ⊥) → e ≡ record { status = e.status; pool = pool; results = r; result = result }
  unfolding played_as
  played-unchanged (Ok counts) e n = absurd (n refl)
  played-unchanged (Err q) e n = rw (play-refused recording limit pool r q e)

pub refused-unchanged : RefusedUnchanged
unfolding started placed_by cancelled_by flushed_by recorded opened played
refused-unchanged =
    record {
      receiver_start = receiver_start-unchanged;
      receive = receive-unchanged;
      receive_burst = burst-unchanged;
      sender_start = λ v image size first. start-unchanged image (Calls.start v size first);
      place = λ image bundle frame result. outcome-unchanged image frame result _ λ e. (place-refused (Images.state_of image) bundle frame e).1;
      cancel = λ image frame result. outcome-unchanged image frame result _ λ e. (cancel-refused (Images.state_of image) frame e).1;
      flush = λ image frame result. outcome-unchanged image frame result _ λ e. (flush-refused (Images.state_of image) frame e).1;
      write_recording = λ sizes octets output result. written-unchanged sizes octets output result _ refl;
      open_recording = λ recording sizes result. opened-unchanged (read recording) sizes result;
      play = λ recording limit pool r result. played-unchanged recording limit pool r result _ refl;
    }
