-- `rows::transfer_visit` meets its contract.
use Rattle.rows.specs.Visit.{transfer_visit}
use Rattle.rows.proofs.transfer_visit.Goals as goal

pub returns-in-Inside : goal.returns-in-Inside
unfolding transfer_visit
returns-in-Inside c = rw (← c.standing_of.ensures, c.in-Inside.is, c.row_of-slot.ensures, c.stay.ensures)

pub returns-in-New : goal.returns-in-New
unfolding transfer_visit
returns-in-New c = rw (← c.standing_of.ensures, c.in-New.is, c.row_of-slot.ensures)

pub returns-in-Outside : goal.returns-in-Outside
unfolding transfer_visit
returns-in-Outside c = rw (← c.standing_of.ensures, c.in-Outside.is) c.stay-in-Outside.ensures
