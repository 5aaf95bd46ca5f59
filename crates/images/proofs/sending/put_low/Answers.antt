-- `images::sending::put_low` meets its contract.
use Rattle.octets.proofs.Numbers.{be16-low}
use Rattle.images.proofs.sending.put_low.Goals as goal

pub returns : goal.returns
returns c = rw (← be16-low c.args.n) c.put_number16.ensures
