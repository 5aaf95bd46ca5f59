-- `row::sound_last` meets its contract. The tests in the definition's order.
use mathlib.Core.Path.{◌≡◌, sym, ap, ◌∙◌}
use mathlib.Core.Bool.{true, not, ◌&&◌}
use lib.ListN.{take}
use Rattle.octets.proofs.Flags.{and}
use Rattle.pieces.specs.Pieces.{has, has_above}
use Rattle.row.specs.Row.{sound_last, indexes_of}
use Rattle.row.proofs.Chain.{passed, failed}
use Rattle.row.proofs.sound_last.Goals.{Then-not-scan, then-scan, else-scan}
use Rattle.row.proofs.sound_last.Goals as goal

pub returns-then-not-row : goal.returns-then-not-row
unfolding sound_last
returns-then-not-row c = rw c.if-not-row.true

-- the final is held, and none above it
held : (c : Then-not-scan) → let r = c.args.row in (has r.last (take r.held r.indexes) ≡ true) × (not (has_above r.last (take r.held r.indexes)) ≡ true)
held c =
    elim c.if-scan.branch [
      | then-scan w ↦ (sym c.scan_for-scan.ensures.held ∙ w.if-scan.true, rw c.scan_for-scan.ensures.above at (sym w.value-is ∙ c.if-not-scan.true))
      | else-scan w ↦ absurd (cc)
    ]

pub returns-then-not-scan : goal.returns-then-not-scan
unfolding sound_last indexes_of
returns-then-not-scan c =
    let h = held (goal.at.returns-then-not-scan c).Then-not-scan in
    let e = rw c.if-not-row.false at c.is_complete.ensures in
    rw c.if-not-row.false (passed _ _ _ (and _ _ h.0 h.1) (ap not e))

pub returns-else-not-scan : goal.returns-else-not-scan
unfolding sound_last indexes_of
returns-else-not-scan c =
    let r = c.args.row in
    let s = c.scan_for-scan.ensures in
    let e : c.if-scan.value ≡ (has r.last (take r.held r.indexes) && not (has_above r.last (take r.held r.indexes))) =
    elim c.if-scan.branch [
      | then-scan w ↦ passed _ _ _ (sym s.held ∙ w.if-scan.true) (rw s.above at w.value-is)
      | else-scan w ↦ failed _ _ _ (sym s.held ∙ w.if-scan.false) (w.value-is ∙ s.held)
    ] in
    rw c.if-not-row.false (failed _ _ _ (sym e ∙ c.if-not-scan.false) e)
