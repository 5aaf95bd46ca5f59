-- `answers::sending::finish` meets its contract.
use Rattle.std.proofs.Common.{◌≡◌, ℕ, List, Ok, refl, ◌∙◌}
use Rattle.framing.specs.declared.Answer.{Answer}
use Rattle.framing.specs.declared.Answer.TheVariants.{Placed, PlacedReady, Ready, Nothing}
use Rattle.framing.specs.declared.State.{State}
use Rattle.framing.specs.Answers.{reply}
use Rattle.images.specs.Sender.{image_of}
use Rattle.answers.specs.Sender.{status, report, kept}
use Rattle.answers.proofs.sending.finish.Goals as goal

status-zero : (a : Answer) → 0 ≡ status (reply (Ok a))
unfolding reply status
status-zero Placed = refl
status-zero PlacedReady = refl
status-zero Ready = refl
status-zero Nothing = refl

image-kept : (a : Answer) (image : List ℕ) (s : State) → image_of s ≡ kept (reply (Ok a)) image s
unfolding reply kept
image-kept Placed image s = refl
image-kept PlacedReady image s = refl
image-kept Ready image s = refl
image-kept Nothing image s = refl

pub returns-in-Ok : goal.returns-in-Ok
returns-in-Ok c =
    rw c.in-Ok.is (status-zero c.in-Ok.answer, c.put_state.ensures ∙ image-kept c.in-Ok.answer c.args.image.now c.args.state, c.code.ensures c.args.res.now)

pub returns-in-Err : goal.returns-in-Err
unfolding reply status report kept
returns-in-Err c = rw (c.in-Err.is) (c.from.ensures, refl, refl)
