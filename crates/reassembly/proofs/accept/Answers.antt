-- `reassembly::accept` meets its contract. The row by its fields, the cell by the copy; where the row is complete, its pieces are joined.
use mathlib.Core.Path.{◌≡◌, refl, sym, ◌∙◌}
use native.Mathlib.Omega.{arith}
use lib.ListN.{length, take, set, length-set}
use lib.Seq.{length-take-le}
use mathlib.Core.Bool.{◌||◌}
use Prim.Native.Nat.{◌+◌, ◌≤◌}
use Rattle.row.proofs.Shaped.{Shaped}
use Rattle.row.specs.Row.{indexes_of, lengths_of}
use Rattle.reassembly.specs.Rules.{with_piece, complete, bundle_of, settle, delivery_of, written}
use borrow.Author.Rules.{rules}
use Rattle.reassembly.proofs.accept.Goals.{Start, After-last_after-last, then-row, else-row}
use Rattle.reassembly.proofs.accept.Goals as goal

shaped : (c : Start) → Shaped c.args.row
shaped c = record { indexes64 = search rules; lengths64 = search rules }

pub join-size-requires : goal.join-size-requires
unfolding lengths_of with_piece
join-size-requires c =
    let z = shaped (goal.at.join-size-requires c).Start in
    let n = c.args.row.held + 1 in
    let few : n ≤ 64 = omega arith in
    let i : length (take n (set c.args.row.indexes c.args.row.held c.args.index)) ≡ n = length-take-le n _ (simp length-set (omega (arith, z.indexes64))) in
    let l : length (take n (set c.args.row.lengths c.args.row.held (length c.args.payload.now))) ≡ n = length-take-le n _ (simp length-set (omega (arith, z.lengths64))) in
    record { pieces = (i ∙ sym l, omega arith); lengths_in_bounds = (omega arith, omega arith, omega arith) }

-- the final is known after the piece
known : (c : After-last_after-last) → c.if-row.known ≡ (c.args.row.known || c.args.ending)
known c =
    elim c.if-row.branch [
      | then-row w ↦ rw w.if-row.true (w.known-is ∙ w.if-row.true)
      | else-row w ↦ rw w.if-row.false w.known-is
    ]

pub returns-then-is_complete : goal.returns-then-is_complete
unfolding settle with_piece complete delivery_of written bundle_of indexes_of lengths_of
returns-then-is_complete c =
    let j = c.join-size.ensures in
    rw (← c.last_after-last.ensures, ← c.copy_into.ensures, ← known (goal.at.returns-then-is_complete c).After-last_after-last, ← c.is_complete.ensures, c.if-is_complete.true)
    (record { row = c.empty_row.ensures; delivery = rw j.size; cell = refl; output = j.output })

pub returns : goal.returns
unfolding settle with_piece complete delivery_of written indexes_of
returns c =
    rw (← c.last_after-last.ensures, ← known (goal.at.returns c).After-last_after-last, ← c.is_complete.ensures, c.if-is_complete.false) (record { row = refl; delivery = refl; cell = c.copy_into.ensures; output = refl })
