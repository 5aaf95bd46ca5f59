-- An image that is refused, and one that is taken.
use mathlib.Core.Path.{sym, ◌∙◌}
use Rattle.board.proofs.ReceiverCalls.{image-refused, image-received, low-place}
use Rattle.board.proofs.receiving.btpu_receive.Goals as goal

pub returns-then-not-is_image : goal.returns-then-not-is_image
returns-then-not-is_image c = image-refused _ _ _ _ _ _ (sym c.is_image.ensures ∙ c.if-not-is_image.true)

pub finish-requires : goal.finish-requires
finish-requires c = low-place _ _ _ _ _ _ _ _ c.receive-answer.ensures

pub returns : goal.returns
returns c =
    let a = c.args in
    image-received a.state.now a.pool.now a.frame.now a.place a.output.now a.res.now (sym c.is_image.ensures ∙ c.if-not-is_image.false) _ c.state_of-s.ensures c.receive-answer.result _ _ _ c.receive-answer.ensures _ _ _ c.finish.ensures.0 c.finish.ensures.1 c.finish.ensures.2
