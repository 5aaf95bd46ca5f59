-- `board::sending::btpu_flush` meets its contract.
use Rattle.images.proofs.SenderImages.{read-some, read-none}
use Rattle.board.proofs.SenderCalls.{image-refused, image-answered}
use Rattle.board.specs.Sender.{flushed_by}
use Rattle.board.proofs.sending.btpu_flush.Goals as goal

pub returns-in_default : goal.returns-in_default
unfolding flushed_by
returns-in_default c = image-refused _ _ _ _ (read-none c.args.state.now c.in_default.ensures)

pub returns : goal.returns
unfolding flushed_by
returns c =
    let p = read-some c.args.state.now c.in-Some.s c.in-Some.ensures in
    rw p.1 (image-answered _ _ _ p.0 _ c.flush-answer.result _ _ c.flush-answer.ensures _ _ _ c.finish.ensures.0 c.finish.ensures.1 c.finish.ensures.2)
