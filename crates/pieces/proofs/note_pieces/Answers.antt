use mathlib.Core.Path.{◌≡◌, refl}
use mathlib.Core.List.{◌∷◌}
use Prim.Native.Nat.{◌+◌, ◌≤◌}
use native.Mathlib.Omega.{arith}
use borrow.Author.Rules.{rules}
use lib.ListN.{length, drop, length-append}
use Rattle.std.specs.Slice.Iter.{iter_rest}
use Rattle.octets.specs.Octets.{sum_of}
use Rattle.pieces.specs.Pieces.{bundle_max}
use Rattle.pieces.proofs.Appending.{sum-next, sum-take}
use Rattle.pieces.proofs.Lists.{taken}
use Rattle.pieces.proofs.Noting.{right-none, right-turn}
use Rattle.pieces.proofs.note_pieces.Goals.{After-note_piece}
use Rattle.pieces.proofs.note_pieces.Goals as goal

pub loop-index-init : goal.loop-index-init
unfolding sum_of
loop-index-init c =
    (search rules, search rules, rw (c.requires.starts_value.0, c.requires.starts_value.1) right-none, refl, omega arith, omega arith)

-- the piece, and those left
left : (c : After-note_piece) → let k = length c.loop-index.yielded in (c.in-Some.index.now ∷ iter_rest c.next.new.self.a ≡ drop k c.args.indexes.now) × (c.in-Some.n.now ∷ iter_rest c.next.new.self.b ≡ drop k c.args.lengths.now)
left c = search rules

-- the octets of the pieces up to this one
sums : (c : After-note_piece) → c.loop-index.start + c.in-Some.n.now ≤ bundle_max
sums c =
    let k = length c.loop-index.yielded in
    let ls = c.args.lengths.now in
    let n = taken k ls _ _ (left c).1 in
    omega (arith, sum-next k ls n.0, sum-take (k + 1) ls)

pub overflow_add-start : goal.overflow_add-start
overflow_add-start c = record { fits = omega (arith, sums (goal.at.overflow_add-start c).After-note_piece) }

pub loop-index-preserved : goal.loop-index-preserved
loop-index-preserved c =
    let l = c.loop-index in
    let a = c.args in
    let k = length l.yielded in
    let p = left c in
    let i = taken k a.indexes.now _ _ p.0 in
    let n = taken k a.lengths.now _ _ p.1 in
    rw length-append (
      i.1.1,
      n.1.1,
      right-turn k l.start a.indexes.now a.lengths.now l.starts l.sizes _ _ l.invariant.2 i.0 n.0 l.invariant.3 (omega (arith, sums c)) l.invariant.4 l.invariant.5 (rw i.1.0 at c.note_piece.ensures.starts_after) (rw (i.1.0, n.1.0) at c.note_piece.ensures.sizes_after),
      omega (arith, sum-next k a.lengths.now n.0),
      omega arith,
      omega arith,
    )
