-- `wire::walk_hints` calls itself on what one hint leaves.
use lib.ListN.{length}
use Rattle.wire.proofs.+walk_hints.Given as goal

abbrev pub decreases-walk_hints : goal.decreases-walk_hints
decreases-walk_hints l = length l.s.now
