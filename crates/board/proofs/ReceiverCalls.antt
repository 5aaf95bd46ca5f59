-- The receiving call on images: what a refused image and a taken one give.
use mathlib.Core.Bool.{Bool, true, false, cond}
use mathlib.Core.List.{List}
use mathlib.Core.Path.{◌≡◌, sym, ap}
use Prim.Native.Nat.{ℕ, ◌<◌}
use native.Mathlib.Omega.{arith}
use Rattle.std.proofs.Common.{Err, Ok, Result}
use Rattle.wire.specs.Frame.{frame_max}
use Rattle.wire.specs.declared.Version.{Version}
use Rattle.window.specs.Window.{is_window}
use Rattle.rows.specs.State.{window_of, fresh}
use Rattle.rows.specs.declared.State.{State}
use Rattle.receiver.specs.declared.Answer.{Answer}
use Rattle.receiver.specs.declared.Refusal.{Refusal}
use Rattle.receiver.specs.declared.Answer.TheVariants.{Delivered, Finished}
use Rattle.rows.specs.Message.{draft_of, Board}
use Rattle.receiver.specs.declared.WrongWindow.{WrongWindow}
use Rattle.receiver.specs.Receive.{wrong_window, start, Reply, reply, receive}
use Rattle.receiver.proofs.Bounds.{place-within}
use Rattle.images.specs.Receiver.{is_image, state_of, image_of}
use Rattle.answers.specs.Receiver.{status, place, report, kept}
use Rattle.board.specs.Receiver.{Exported, exported, received, started}

-- a start that is made, and one that is denied
module _ (v : Version) (image : List ℕ) (w : ℕ) where
  pub receiver-made : (s : State) (image' : List ℕ) → Ok s ≡ start v w → image' ≡ image_of s → ◌≡◌ {A = ℕ × List ℕ} (0, image') (started v image w)
  unfolding started start
  receiver-made s image' e ei = go (is_window w) e
    where
      go : (b : Bool) → Ok s ≡ cond b (Ok (fresh v w)) (Err wrong_window) → ◌≡◌ {A = ℕ × List ℕ} (0, image') (cond b (0, image_of (fresh v w)) (21, image))
      go true h = let same : s ≡ fresh v w = cc in rw (ei, same)
      go false h = cc

  pub receiver-denied : (x : WrongWindow) (n : ℕ) → Err x ≡ start v w → n ≡ 21 → ◌≡◌ {A = ℕ × List ℕ} (n, image) (started v image w)
  unfolding started start
  receiver-denied x n e en = go (is_window w) e
    where
      go : (b : Bool) → Err x ≡ cond b (Ok (fresh v w)) (Err wrong_window) → ◌≡◌ {A = ℕ × List ℕ} (n, image) (cond b (0, image_of (fresh v w)) (21, image))
      go true h = cc
      go false h = rw en

-- the place that an answer names lies in a frame
pub low-place : (b : Board) (frame : List ℕ) (n : ℕ) (output : List ℕ) (answer : Result Answer Refusal) (s : State) (pool output' : List ℕ) → reply answer s pool output' ≡ receive b frame n output → place answer < frame_max
low-place b frame n output answer s pool output' e = go answer (ap (λ (x : Reply). x.answer) (sym e))
  where
    go : (a : Result Answer Refusal) → (receive b frame n output).answer ≡ a → place a < frame_max
    go (Ok (Delivered length next origin)) q = omega arith
    go (Ok Finished) q = omega arith
    go (Err refusal) q = place-within (draft_of b.state) (window_of b.state) b frame n output refusal q

pub image-refused : (image pool frame : List ℕ) (place : ℕ) (output result : List ℕ) → is_image image ≡ false
    → ◌≡◌ {A = Exported} (record { status = 1; image = image; pool = pool; output = output; result = result }) (received image pool frame place output result)
unfolding received
image-refused image pool frame place output result e = rw e

-- what the parts of the call leave, put together
pub image-received : (image pool frame : List ℕ) (place : ℕ) (output result : List ℕ) → is_image image ≡ true → (s : State) → s ≡ state_of image
    → (answer : Result Answer Refusal) (s' : State) (pool' output' : List ℕ) → reply answer s' pool' output' ≡ receive (record { state = s; pool = pool }) frame place output
    → (n : ℕ) (image' result' : List ℕ) → n ≡ status answer → image' ≡ kept answer image s' → result' ≡ report answer result
    → ◌≡◌ {A = Exported} (record { status = n; image = image'; pool = pool'; output = output'; result = result' }) (received image pool frame place output result)
unfolding received exported
image-received image pool frame place output result e s es answer s' pool' output' er n image' result' en ei eo =
    rw (e, ← es, ← er, en, ei, eo)
