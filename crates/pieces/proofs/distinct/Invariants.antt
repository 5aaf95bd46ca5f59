-- `pieces::distinct` meets its contract. The table holds the indexes passed: the answer is `apart` of the rest, if none came twice.
use Rattle.std.proofs.Common.{◌≡◌, ◌&&◌, not, length, drop}
use Rattle.pieces.proofs.Apart.{apart}
use Rattle.pieces.specs.Pieces.{low_and_distinct}
use Rattle.pieces.proofs.distinct.Given as goal

abbrev pub invariant-loop-index : goal.invariant-loop-index
invariant-loop-index l =
    (low_and_distinct l.indexes ≡ (not l.twice && apart l.seen (drop l.index-index l.indexes))) × (length l.seen ≡ 64)
