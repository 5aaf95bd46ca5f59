-- `framing::close` meets its contract.
use Rattle.framing.specs.Answers.{reply}
use Rattle.framing.specs.Placing.{closed}
use Rattle.framing.proofs.close.Goals as goal

pub returns : goal.returns
unfolding closed reply
returns c = rw (c.put_padding.ensures, c.requires.2)
