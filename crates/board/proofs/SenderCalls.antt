-- The sender's calls on images.
use mathlib.Core.Bool.{true, false}
use mathlib.Core.List.{List}
use mathlib.Core.Path.{◌≡◌}
use Prim.Native.Nat.{ℕ}
use Rattle.std.specs.Prelude.{Ok, Err, Result}
use Rattle.wire.specs.declared.Version.{Version}
use Rattle.framing.specs.declared.Answer.{Answer}
use Rattle.framing.specs.declared.Refusal.{Refusal}
use Rattle.framing.specs.declared.State.{State}
use Rattle.framing.specs.Answers.{reply, refusal_number, Outcome, outcome}
use Rattle.sender.specs.Answers.{start_reply}
use Rattle.sender.specs.Calls as Calls
use Rattle.images.specs.Sender.{is_image, image_of}
use Rattle.answers.specs.Sender.{status, report, kept}
use Rattle.board.specs.Sender.{Exported, exported, unless_image, started_with, started}

pub image-refused : (image frame result : List ℕ) (e : Exported) → is_image image ≡ false
    → ◌≡◌ {A = Exported} (record { status = 1; image = image; frame = frame; result = result }) (unless_image image frame result e)
unfolding unless_image
image-refused image frame result e h = rw h

-- what the parts of a call leave, put together
pub image-answered : (image frame result : List ℕ) → is_image image ≡ true → (o : Outcome) (r : Result Answer Refusal) (s : State) (frame' : List ℕ) → outcome r s frame' ≡ o
    → (n : ℕ) (image' result' : List ℕ) → n ≡ status (reply r) → image' ≡ kept (reply r) image s → result' ≡ report (reply r) result
    → ◌≡◌ {A = Exported} (record { status = n; image = image'; frame = frame'; result = result' }) (unless_image image frame result (exported o image result))
unfolding unless_image exported
image-answered image frame result h o r s frame' e n image' result' en ei er = rw (h, ← e, en, ei, er)

pub sender_made : (v : Version) (image image' : List ℕ) (size first : ℕ) (m : State) → start_reply (Ok m) ≡ Calls.start v size first → image' ≡ image_of m → ◌≡◌ {A = ℕ × List ℕ} (0, image') (started v image size first)
unfolding started started_with start_reply
sender_made v image image' size first m e ei = rw (← e, ei)

pub sender_denied : (v : Version) (image : List ℕ) (size first : ℕ) (r : Refusal) (n : ℕ) → start_reply (Err r) ≡ Calls.start v size first → n ≡ refusal_number r → ◌≡◌ {A = ℕ × List ℕ} (n, image) (started v image size first)
unfolding started started_with start_reply
sender_denied v image size first r n e en = rw (← e, en)
