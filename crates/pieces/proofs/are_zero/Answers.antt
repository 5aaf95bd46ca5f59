use mathlib.Core.Path.{◌≡◌, refl, ap, ◌∙◌}
use mathlib.Core.List.{◌∷◌}
use mathlib.Core.Logic.{⊎_elim}
use Prim.Native.Nat.{◌+◌, ◌≤◌}
use native.Mathlib.Omega.{arith}
use borrow.Author.Rules.{rules}
use lib.ListN.{length, drop, take, get_or, length-append, length-drop}
use lib.Seq.{take_all}
use Rattle.std.specs.Slice.Iter.{iter_rest}
use Rattle.octets.specs.Octets.{sum_of}
use Rattle.pieces.specs.Pieces.{zero_from}
use Rattle.pieces.proofs.Appending.{sum-next}
use Rattle.pieces.proofs.Lists.{taken, zeros-sum, both-zero}
use Rattle.pieces.proofs.are_zero.Goals.{In-Some, In-None}
use Rattle.pieces.proofs.are_zero.Goals as goal

pub loop-index-init : goal.loop-index-init
unfolding sum_of
loop-index-init c = (search rules, search rules, refl)

-- the entries, and those left
left : (c : In-Some) → let k = length c.loop-index.yielded in (c.in-Some.index.now ∷ iter_rest c.next.new.self.a ≡ drop k c.args.indexes.now) × (c.in-Some.n.now ∷ iter_rest c.next.new.self.b ≡ drop k c.args.lengths.now)
left c = search rules

pub loop-index-preserved : goal.loop-index-preserved
loop-index-preserved c =
    let l = c.loop-index in
    let a = c.args in
    let k = length l.yielded in
    let p = left (goal.at.loop-index-preserved c).In-Some in
    let i = taken k a.indexes.now _ _ p.0 in
    let n = taken k a.lengths.now _ _ p.1 in
    let A = sum_of (take k a.indexes.now) in
    let B = sum_of (take k a.lengths.now) in
    let x = get_or a.indexes.now k 0 in
    let y = get_or a.lengths.now k 0 in
    let e : A + x + (B + y) ≡ A + B + (x + y) = omega arith in
    rw length-append (
      i.1.1,
      n.1.1,
      rw (sum-next k a.indexes.now i.0, sum-next k a.lengths.now n.0, e, i.1.0, n.1.0, l.invariant.2) (rw (both-zero x y) (both-zero (A + B) (x + y))),
    )

-- one list is at its end, and so is the other
over : (c : In-None) → length c.args.indexes.now ≤ length c.loop-index.yielded
over c =
    let l = c.loop-index in
    let k = length l.yielded in
    let a = ap length l.invariant.0 ∙ length-drop k c.args.indexes.now in
    let b = ap length l.invariant.1 ∙ length-drop k c.args.lengths.now in
    ⊎_elim (λ x. omega (arith, a, x.1.0)) (λ y. omega (arith, b, y.1.0, c.requires)) (c.in-None.ensures {u = tt}).steps

pub returns : goal.returns
unfolding zero_from
returns c =
    let l = c.loop-index in
    let a = c.args in
    let k = length l.yielded in
    let h = over (goal.at.returns c).In-None in
    rw (zeros-sum a.indexes.now, zeros-sum a.lengths.now, both-zero, ← take_all k a.indexes.now h, ← take_all k a.lengths.now (omega arith)) l.invariant.2
