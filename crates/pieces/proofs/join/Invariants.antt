-- `pieces::join` meets its contract. The first pieces in the order of joining stand at the front of the output.
use Rattle.std.proofs.Common.{◌≡◌, ◌+◌, length}
use Rattle.octets.specs.Octets.{put}
use Rattle.pieces.proofs.Joining.{front}
use Rattle.pieces.proofs.join.Given as goal

abbrev pub invariant-loop-place : goal.invariant-loop-place
invariant-loop-place l =
    (l.at ≡ length (front l.order (l.last + 1) l.place l.indexes l.lengths l.cell))
    × (l.out ≡ put l.initial.out 0 (front l.order (l.last + 1) l.place l.indexes l.lengths l.cell))
    × (length l.out ≡ length l.initial.out)
