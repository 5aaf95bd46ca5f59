-- `pieces::scan_for` meets its contract. What was found is the answer for the indexes passed.
use Rattle.std.proofs.Common.{◌≡◌, take}
use Rattle.pieces.specs.Pieces.{has, has_above}
use Rattle.pieces.proofs.scan_for.Given as goal

abbrev pub invariant-loop-x : goal.invariant-loop-x
invariant-loop-x l = (l.held ≡ has l.index (take l.x-index l.indexes)) × (l.above ≡ has_above l.index (take l.x-index l.indexes))
