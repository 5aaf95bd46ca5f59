-- The first j numbers are written.
use mathlib.Core.Path.{◌≡◌}
use Prim.Native.Nat.{◌*◌}
use lib.ListN.{length, take}
use Rattle.octets.specs.Octets.{spread, put}
use Rattle.octets.proofs.put_pairs.Given as goal

abbrev pub invariant-loop-j : goal.invariant-loop-j
invariant-loop-j l =
    (l.to ≡ put l.initial.to l.at (spread (take l.j l.numbers))) × (length (spread (take l.j l.numbers)) ≡ l.j * 2)
