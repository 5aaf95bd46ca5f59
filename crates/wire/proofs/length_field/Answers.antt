-- `wire::length_field` meets its contract.
use Prim.Native.Nat.{◌+◌}
use native.Mathlib.Omega.{arith}
use lib.Seq.{get_or-drop}
use Rattle.wire.specs.Layout.{length_field}
use Rattle.wire.proofs.length_field.Goals as goal

pub returns-in-Draft00 : goal.returns-in-Draft00
unfolding length_field
returns-in-Draft00 c = rw c.in-Draft00.is (simp get_or-drop (omega arith))

pub returns-in-Draft02 : goal.returns-in-Draft02
unfolding length_field
returns-in-Draft02 c = rw c.in-Draft02.is (simp get_or-drop (omega (arith, c.type_inv.frame (c.args.at + 2), c.type_inv.frame (c.args.at + 3))))
