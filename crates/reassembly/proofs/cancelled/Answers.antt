-- `reassembly::cancelled` meets its contract. By the phase.
use Rattle.reassembly.specs.Rules.{cancelled}
use Rattle.reassembly.proofs.cancelled.Goals as goal

pub returns-then-is_live : goal.returns-then-is_live
unfolding cancelled
returns-then-is_live c = rw (← c.is_live.ensures, c.if-is_live.true) c.empty_row.ensures

pub returns-else-is_live : goal.returns-else-is_live
unfolding cancelled
returns-else-is_live c = rw (← c.is_live.ensures, c.if-is_live.false)
