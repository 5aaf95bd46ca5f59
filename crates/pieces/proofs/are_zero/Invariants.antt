-- Whether the entries passed are zero, by their sum.
use Rattle.std.proofs.Common.{◌≡◌, ◌+◌, length, take, drop, nat_eq}
use Rattle.std.specs.Slice.Iter.{iter_rest}
use Rattle.octets.specs.Octets.{sum_of}
use Rattle.pieces.proofs.are_zero.Given as goal

abbrev pub invariant-loop-index : goal.invariant-loop-index
invariant-loop-index l =
    (iter_rest l.index-iterator.a ≡ drop (length l.yielded) l.indexes)
    × (iter_rest l.index-iterator.b ≡ drop (length l.yielded) l.lengths)
    × (l.zero ≡ nat_eq (sum_of (take (length l.yielded) l.indexes) + sum_of (take (length l.yielded) l.lengths)) 0)
