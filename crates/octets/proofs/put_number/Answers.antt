-- The highest octet of a number of 32 bits is below 256 by itself.
use mathlib.Core.Path.{◌≡◌}
use Prim.Native.Nat.{◌/◌, ◌%◌}
use native.Mathlib.Omega.{arith}
use Rattle.octets.specs.Octets.{be32}
use Rattle.octets.proofs.put_number.Goals as goal

pub returns : goal.returns
unfolding be32
returns c =
    let e : c.args.n / 16777216 % 256 ≡ c.args.n / 16777216 = omega arith in
    rw e at (rw c.to_be_bytes.ensures at c.put_array.ensures)
