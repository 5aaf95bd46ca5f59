-- `sender::sound` meets its contract.
use mathlib.Core.Path.{refl, sym, ◌∙◌}
use mathlib.Core.Bool.{true, false}
use Rattle.sender.proofs.Facts.{sound-by}
use Rattle.sender.proofs.sound.Goals as goal

pub returns-then-under_way : goal.returns-then-under_way
returns-then-under_way c =
    c.indexed.ensures ∙ sound-by _ true true true (sym c.if-ranges.true ∙ c.ranges-2.ensures) (sym c.if-s.true) (sym c.if-under_way.true ∙ c.under_way.ensures)

pub returns-else-under_way : goal.returns-else-under_way
returns-else-under_way c =
    c.if-under_way.false ∙ sound-by _ true true false (sym c.if-ranges.true ∙ c.ranges-2.ensures) (sym c.if-s.true) (sym c.if-under_way.false ∙ c.under_way.ensures)

pub returns-else-s : goal.returns-else-s
returns-else-s c =
    c.cleared.ensures ∙ sound-by _ true false _ (sym c.if-ranges.true ∙ c.ranges-2.ensures) (sym c.if-s.false) refl

pub returns-else-ranges : goal.returns-else-ranges
returns-else-ranges c =
    c.if-ranges.false ∙ sound-by c.args.s false _ _ (sym c.if-ranges.false ∙ c.ranges-2.ensures) refl refl
