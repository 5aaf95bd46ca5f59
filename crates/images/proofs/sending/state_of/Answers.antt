-- `images::sending::state_of` meets its contract.
use Rattle.images.specs.Sender.{state_of}
use Rattle.images.proofs.sending.state_of.Goals as goal

pub returns : goal.returns
unfolding state_of
returns c =
    rw (
      c.number16_at.ensures,
      c.number16_at-2.ensures,
      c.number_at.ensures,
      c.number_at-2.ensures,
      c.number16_at-3.ensures,
      c.number16_at-4.ensures,
      c.number_at-3.ensures,
      c.version_of.ensures,
    )
