-- `row::judge` meets its contract. By the phase.
use Rattle.row.specs.Row.{judge}
use Rattle.row.proofs.judge.Goals as goal

pub returns-then-is_live : goal.returns-then-is_live
unfolding judge
returns-then-is_live c = rw (← c.is_live.ensures, c.if-is_live.true) c.judge_live.ensures

pub returns-else-is_live : goal.returns-else-is_live
unfolding judge
returns-else-is_live c = rw (← c.is_live.ensures, c.if-is_live.false)
