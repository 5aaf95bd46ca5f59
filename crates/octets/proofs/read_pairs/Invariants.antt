-- The first j numbers are read.
use Rattle.std.proofs.Common.{◌≡◌, replicate}
use Rattle.octets.specs.Octets.{pairs, put}
use Rattle.octets.proofs.read_pairs.Given as goal

abbrev pub invariant-loop-j : goal.invariant-loop-j
invariant-loop-j g l = l.numbers ≡ put (replicate g.row.N 0) 0 (pairs l.j l.octets)
