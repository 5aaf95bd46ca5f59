-- An image that is refused, and one that is taken.
use mathlib.Core.Path.{sym, ◌∙◌}
use Rattle.burst.specs.Burst.{lists}
use Rattle.board.proofs.BurstCalls.{image-refused, image-taken}
use Rattle.board.proofs.bursts.btpu_receive_burst.Goals as goal

pub returns-then-not-is_image : goal.returns-then-not-is_image
returns-then-not-is_image c = image-refused _ _ _ _ _ _ _ _ (sym c.is_image.ensures ∙ c.if-not-is_image.true)

pub returns : goal.returns
returns c =
    let a = c.args in
    image-taken a.state.now a.pool.now a.sizes.now a.joined.now a.frame a.place
    (lists a.output.now a.lengths.now a.numbers.now a.places.now a.reasons.now) a.res.now
    (sym c.is_image.ensures ∙ c.if-not-is_image.false) _ c.state_of-s.ensures c.receive_burst-answer.result _ _ _ c.receive_burst-answer.ensures _ _ _ c.finish.ensures.0 c.finish.ensures.1 c.finish.ensures.2
