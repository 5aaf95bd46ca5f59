-- `row::sound_row` meets its contract. By the phase.
use Rattle.row.specs.Row.{sound_row}
use Rattle.row.proofs.sound_row.Goals as goal

pub returns-then-is_open : goal.returns-then-is_open
unfolding sound_row
returns-then-is_open c = rw (← c.is_open.ensures, c.if-is_open.true) c.sound_open.ensures

pub returns-else-is_open : goal.returns-else-is_open
unfolding sound_row
returns-else-is_open c = rw (← c.is_open.ensures, c.if-is_open.false) c.sound_empty.ensures
