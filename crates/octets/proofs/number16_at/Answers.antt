-- The octets at the position are those at the head of what is left from there on.
use native.Mathlib.Nat.{add-zero}
use native.Mathlib.Omega.{arith}
use lib.Seq.{get_or-drop}
use Rattle.octets.specs.Octets.{number16}
use Rattle.octets.proofs.number16_at.Goals as goal

pub returns : goal.returns
unfolding number16
returns c = simp (get_or-drop, add-zero) (omega arith)
