-- `answers::sending::code` meets its contract.
use Rattle.framing.specs.Answers.{reply}
use Rattle.answers.specs.Sender.{report}
use Rattle.answers.proofs.sending.code.Goals as goal

pub returns-in-Placed : goal.returns-in-Placed
unfolding reply report
returns-in-Placed c = λ r. rw c.in-Placed.is

pub returns-in-PlacedReady : goal.returns-in-PlacedReady
unfolding reply report
returns-in-PlacedReady c = λ r. rw c.in-PlacedReady.is

pub returns-in-Ready : goal.returns-in-Ready
unfolding reply report
returns-in-Ready c = λ r. rw c.in-Ready.is

pub returns-in-Nothing : goal.returns-in-Nothing
unfolding reply report
returns-in-Nothing c = λ r. rw c.in-Nothing.is
