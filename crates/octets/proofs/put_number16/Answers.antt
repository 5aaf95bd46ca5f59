use Rattle.octets.specs.Octets.{be16}
use Rattle.octets.proofs.put_number16.Goals as goal

pub returns : goal.returns
unfolding be16
returns c = rw c.to_be_bytes.ensures at c.put_array.ensures
