-- The highest octet of a length below 2 ^ 20 is below 16.
use mathlib.Core.Path.{◌≡◌}
use Prim.Native.Nat.{◌/◌, ◌%◌}
use native.Mathlib.Omega.{arith}
use Rattle.writing.specs.Written.{header}
use Rattle.writing.proofs.put_header.Goals as goal

pub returns : goal.returns
unfolding header
returns c =
    let e : c.args.n / 65536 % 256 ≡ c.args.n / 65536 = omega arith in
    rw e at (rw c.to_be_bytes.ensures at c.put_array.ensures)
