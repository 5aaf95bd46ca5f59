-- `images::receiving::version_of` meets its contract.
use native.Mathlib.Omega.{arith}
use borrow.Author.Tests.{ne_eqb}
use Rattle.images.specs.Receiver.{version_of}
use Rattle.images.proofs.receiving.version_of.Goals as goal

pub returns-in-1 : goal.returns-in-1
unfolding version_of
returns-in-1 c = rw c.in-1.is

pub returns-in_default : goal.returns-in_default
unfolding version_of
returns-in_default c = rw (ne_eqb c.args.code 1 (λ e. omega arith))
