-- `messages::progressed` meets its contract.
use Rattle.messages.specs.Run.{progressed}
use Rattle.messages.proofs.progressed.Goals as goal

pub returns-in-None : goal.returns-in-None
unfolding progressed
returns-in-None c = rw c.in-None.is

pub returns-in-Some : goal.returns-in-Some
unfolding progressed
returns-in-Some c = rw c.in-Some.is
