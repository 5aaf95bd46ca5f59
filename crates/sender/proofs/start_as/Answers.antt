-- `sender::start_as` meets its contract.
use Rattle.sender.specs.Answers.{start_reply}
use Rattle.sender.specs.Calls.{start}
use Rattle.sender.proofs.start_as.Goals as goal

pub returns-then-not-sized : goal.returns-then-not-sized
unfolding start start_reply
returns-then-not-sized c = rw (← c.sized.ensures, c.if-not-sized.true)

pub returns : goal.returns
unfolding start start_reply
returns c = rw (← c.sized.ensures, c.if-not-sized.false)
