-- `pieces::note_piece` meets its contract.
use mathlib.Core.Path.{◌≡◌, refl}
use native.Mathlib.Omega.{arith}
use lib.ListN.{get_or, get_or-eq_default}
use borrow.Author.Tests.{eq-eqb, ne_eqb}
use Rattle.pieces.specs.Note.{absent}
use Rattle.pieces.specs.Search.{noted}
use Rattle.pieces.proofs.note_piece.Goals as goal

pub returns-then-i-ge-INDEX_COUNT : goal.returns-then-i-ge-INDEX_COUNT
unfolding noted
returns-then-i-ge-INDEX_COUNT c =
    let a = c.args in
    let z : get_or a.starts.now a.index 0 ≡ 0 = get_or-eq_default a.starts.now 0 (omega arith) in
    rw z record { starts_after = refl; sizes_after = refl }

pub returns-then-starts-i : goal.returns-then-starts-i
unfolding noted
returns-then-starts-i c =
    let a = c.args in
    rw (ne_eqb (get_or a.starts.now a.index 0) absent (λ q. omega arith)) record { starts_after = refl; sizes_after = refl }

pub returns : goal.returns
unfolding noted
returns c =
    let a = c.args in
    rw (eq-eqb (get_or a.starts.now a.index 0) absent (omega arith)) record { starts_after = refl; sizes_after = refl }
