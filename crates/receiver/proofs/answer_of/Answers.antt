-- `receiver::answer_of` meets its contract.
use borrow.Author.Tests.{eq-eqb, ne_eqb}
use Rattle.receiver.specs.Steps.{answer_of}
use Rattle.receiver.proofs.answer_of.Goals as goal

pub returns-then-p-eq0 : goal.returns-then-p-eq0
unfolding answer_of
returns-then-p-eq0 c = rw (eq-eqb _ _ c.if-p-eq0.true)

pub returns : goal.returns
unfolding answer_of
returns c = rw (ne_eqb _ _ c.if-p-eq0.false)
