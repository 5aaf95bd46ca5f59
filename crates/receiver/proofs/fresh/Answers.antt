-- `receiver::fresh` meets its contract.
use Rattle.rows.specs.State as State
use Rattle.receiver.proofs.fresh.Goals as goal

pub returns : goal.returns
unfolding State.fresh
returns c = rw c.empty_row-free.ensures
