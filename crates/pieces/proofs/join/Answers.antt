use mathlib.Core.Path.{◌≡◌, refl}
use mathlib.Core.List.{List}
use Prim.Native.Nat.{ℕ, ◌+◌, ◌≤◌, ◌<◌}
use native.Mathlib.Omega.{arith}
use lib.ListN.{length, get_or}
use Rattle.octets.specs.Octets.{put, sum_of}
use Rattle.pieces.specs.Pieces.{piece, size_of}
use Rattle.pieces.specs.Search.{ordered}
use Rattle.pieces.specs.declared.Order.{Order}
use Rattle.pieces.proofs.Joining.{front, ordered-low, front-part, front-turn, front-done, front-zero}
use Rattle.pieces.proofs.Noting.{Lies, lies}
use Rattle.pieces.proofs.join.Goals.{After-ordered-k}
use Rattle.pieces.proofs.join.Goals as goal

-- a turn: the k-th piece in the order, of index i
module _ (c : After-ordered-k) where
  abbrev order : Order
  order = c.args.order

  abbrev n : ℕ
  n = c.args.last + 1

  abbrev k : ℕ
  k = c.loop-place.place

  abbrev i : ℕ
  i = ordered order n k

  abbrev is : List ℕ
  is = c.args.indexes.now

  abbrev ls : List ℕ
  ls = c.args.lengths.now

  abbrev cell : List ℕ
  cell = c.args.cell.now

  below : k < n
  below = omega arith

  low : i < 64
  low = omega (arith, ordered-low order n k below)

  noted : (r : ℕ) → r ≡ i → Lies i is ls cell (get_or c.note_pieces.new.starts r 0) (get_or c.note_pieces.new.sizes r 0)
  noted r e = rw e (lies is ls c.note_pieces.new.starts c.note_pieces.new.sizes cell c.note_pieces.ensures c.requires.lengths_in_bounds.0 i low)

  room : (c.loop-place.at + size_of i is ls ≡ length (front order n (k + 1) is ls cell)) × (c.loop-place.at + size_of i is ls ≤ sum_of ls)
  room = front-part is ls cell c.requires.lengths_in_bounds.0 order n k below c.loop-place.at c.loop-place.invariant.0

  -- one piece more behind those joined, where copying makes `out`
  size_after : (at r : ℕ) → r ≡ i → at ≡ c.loop-place.at + get_or c.note_pieces.new.sizes r 0 → at ≡ length (front order n (k + 1) is ls cell)
  size_after at r q e = let h = noted r q in omega (arith, h.size, room.0)

  out_after : (out octets : List ℕ) → octets ≡ piece i is ls cell → out ≡ put c.loop-place.out c.loop-place.at octets → out ≡ put c.args.out.now 0 (front order n (k + 1) is ls cell)
  out_after out octets h e = front-turn is ls cell c.requires.lengths_in_bounds.0 order n k below c.loop-place.at _ _ _ _ c.requires.lengths_in_bounds.1 c.loop-place.invariant.0 c.loop-place.invariant.1 h e

pub loop-place-init : goal.loop-place-init
unfolding front
loop-place-init c =
    let a = c.args in
    (refl, front-zero a.indexes.now a.lengths.now a.cell.now c.requires.lengths_in_bounds.0 a.order (a.last + 1) a.out.now, refl)

pub copy_piece-at-requires : goal.copy_piece-at-requires
copy_piece-at-requires c =
    let p = c.requires.lengths_in_bounds in
    let t = (goal.at.copy_piece-at-requires c).After-ordered-k in
    let h = noted t _ c.ordered-k.ensures in
    (h.within, omega (arith, h.size, (room t).1, p.1, c.loop-place.invariant.2), omega (arith, h.size, (room t).1, p.2))

pub loop-place-preserved : goal.loop-place-preserved
loop-place-preserved c =
    let t = (goal.at.loop-place-preserved c).After-ordered-k in
    let q = c.ordered-k.ensures in
    let e = c.copy_piece-at.ensures in
    (size_after t _ _ q e.0, out_after t _ _ (noted t _ q).octets e.1, omega (arith, c.copy_piece-at.auto.out))

pub returns-2 : goal.returns-2
returns-2 c =
    let a = c.args in
    let t = (goal.at.returns-2 c).After-ordered-k in
    let q = c.ordered-k.ensures in
    let e = c.copy_piece-at.ensures in
    front-done a.indexes.now a.lengths.now a.cell.now c.requires.lengths_in_bounds.0 a.order (a.last + 1) (c.loop-place.place + 1) _ _ _ (omega arith) (size_after t _ _ q e.0) (out_after t _ _ (noted t _ q).octets e.1)
