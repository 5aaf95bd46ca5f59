-- `octets::copy_long` meets its contract. What is left, put behind what is copied, makes the whole.
use Rattle.std.proofs.Common.{◌≡◌, ◌+◌, ◌≤◌, length}
use Rattle.std.specs.Slice.Iter.{chunks_rest}
use Rattle.octets.specs.Octets.{put}
use Rattle.octets.proofs.copy_long.Given as goal

abbrev pub invariant-loop-part : goal.invariant-loop-part
invariant-loop-part l =
    goal.iterator-loop-part.can_next l.part-iterator
    × goal.iterator-loop-part.is_finite l.part-iterator
    × (l.end + length (chunks_rest l.part-iterator) ≤ length l.to)
    × (put l.to l.end (chunks_rest l.part-iterator) ≡ put l.initial.to l.at l.src)
