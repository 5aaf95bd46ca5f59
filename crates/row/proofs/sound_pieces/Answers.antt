-- `row::sound_pieces` meets its contract. The tests in the definition's order.
use mathlib.Core.Path.{sym, ◌∙◌}
use lib.ListN.{length-drop}
use lib.Seq.{take-length}
use Rattle.row.proofs.Chain.{passed, failed}
use Rattle.row.specs.Row.{sound_pieces, indexes_of, lengths_of}
use Rattle.pieces.specs.Pieces.{zero_from}
use Rattle.row.proofs.sound_pieces.Goals.{then-distinct, else-distinct}
use Rattle.row.proofs.sound_pieces.Goals as goal

pub returns-then-sum_of-le-BUNDLE_MAX : goal.returns-then-sum_of-le-BUNDLE_MAX
unfolding sound_pieces indexes_of lengths_of zero_from
returns-then-sum_of-le-BUNDLE_MAX c =
    let r = c.args.row in
    let zero = rw (← length-drop r.held r.indexes, ← length-drop r.held r.lengths, take-length, take-length) at c.are_zero.ensures in
    elim c.if-distinct.branch [
      | then-distinct w ↦ passed _ _ _ (sym c.distinct.ensures ∙ w.if-distinct.true) (passed _ _ _ (rw w.sum_of.ensures at (sym w.value-is ∙ c.if-sum_of-le-BUNDLE_MAX.true)) zero)
      | else-distinct w ↦ absurd (cc)
    ]

pub returns-else-sum_of-le-BUNDLE_MAX : goal.returns-else-sum_of-le-BUNDLE_MAX
unfolding sound_pieces indexes_of lengths_of
returns-else-sum_of-le-BUNDLE_MAX c =
    elim c.if-distinct.branch [
      | then-distinct w ↦
          let e = rw w.sum_of.ensures at w.value-is in
          passed _ _ _ (sym c.distinct.ensures ∙ w.if-distinct.true) (failed _ _ _ (sym e ∙ c.if-sum_of-le-BUNDLE_MAX.false) e)
      | else-distinct w ↦ failed _ _ _ (sym c.distinct.ensures ∙ w.if-distinct.false) (w.value-is ∙ c.distinct.ensures)
    ]
