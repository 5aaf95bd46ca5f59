-- `pieces::note_pieces` meets its contract. The note is right for the pieces passed, and the next one starts where they end.
use Rattle.std.proofs.Common.{◌≡◌, length, take, drop}
use Rattle.std.specs.Slice.Iter.{iter_rest}
use Rattle.octets.specs.Octets.{sum_of}
use Rattle.pieces.specs.Note.{Right}
use Rattle.pieces.proofs.note_pieces.Given as goal

abbrev pub invariant-loop-index : goal.invariant-loop-index
invariant-loop-index l =
    (iter_rest l.index-iterator.a ≡ drop (length l.yielded) l.indexes)
    × (iter_rest l.index-iterator.b ≡ drop (length l.yielded) l.lengths)
    × Right (take (length l.yielded) l.indexes) (take (length l.yielded) l.lengths) l.starts l.sizes
    × (l.start ≡ sum_of (take (length l.yielded) l.lengths))
    × (length l.starts ≡ 64)
    × (length l.sizes ≡ 64)
