-- `framing::advanced` meets its contract.
use Rattle.std.proofs.Common.{eq-eqb, ne_eqb}
use Rattle.framing.specs.Answers.{reply}
use Rattle.framing.specs.Placing.{advanced}
use Rattle.framing.proofs.advanced.Goals as goal

pub returns-then-s : goal.returns-then-s
unfolding advanced reply
returns-then-s c = λ d. rw (eq-eqb _ _ c.if-s.true)

pub returns : goal.returns
unfolding advanced reply
returns c = λ d. rw (ne_eqb _ _ c.if-s.false)
