-- `board::sending::btpu_cancel` meets its contract.
use Rattle.images.proofs.SenderImages.{read-some, read-none}
use Rattle.board.proofs.SenderCalls.{image-refused, image-answered}
use Rattle.board.specs.Sender.{cancelled_by}
use Rattle.board.proofs.sending.btpu_cancel.Goals as goal

pub returns-in_default : goal.returns-in_default
unfolding cancelled_by
returns-in_default c = image-refused _ _ _ _ (read-none c.args.state.now c.in_default.ensures)

pub returns : goal.returns
unfolding cancelled_by
returns c =
    let p = read-some c.args.state.now c.in-Some.s c.in-Some.ensures in
    rw p.1 (image-answered _ _ _ p.0 _ c.cancel-answer.result _ _ c.cancel-answer.ensures _ _ _ c.finish.ensures.0 c.finish.ensures.1 c.finish.ensures.2)
