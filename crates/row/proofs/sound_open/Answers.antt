-- `row::sound_open` meets its contract. The tests in the definition's order.
use mathlib.Core.Path.{◌≡◌, sym, ◌∙◌}
use mathlib.Core.Bool.{true, ◌&&◌}
use borrow.Author.Rules.{rules}
use lib.Dec.{leb}
use Rattle.octets.proofs.Flags.{and}
use Rattle.row.proofs.Chain.{passed, failed}
use Rattle.row.specs.Row.{sound_open, sound_pieces}
use Rattle.row.proofs.sound_open.Goals.{After-contains, Then-sound_pieces, then-contains, else-contains}
use Rattle.row.proofs.sound_open.Goals as goal

inside : (c : After-contains) → c.contains.result ≡ (leb 1 c.args.row.held && leb c.args.row.held 64)
inside c = search rules

-- what the first tests say
sound : (c : Then-sound_pieces) → (c.contains.result ≡ true) × (sound_pieces c.args.row ≡ true)
sound c =
    elim c.if-contains.branch [
      | then-contains w ↦ (w.if-contains.true, sym (w.value-is ∙ w.sound_pieces.ensures) ∙ c.if-sound_pieces.true)
      | else-contains w ↦ absurd (cc)
    ]

pub returns-then-sound_pieces : goal.returns-then-sound_pieces
unfolding sound_open
returns-then-sound_pieces c =
    let i = inside (goal.at.returns-then-sound_pieces c).After-contains in
    let s = sound (goal.at.returns-then-sound_pieces c).Then-sound_pieces in
    passed _ _ _ (and _ _ (sym i ∙ s.0) s.1) c.sound_last.ensures

pub returns-else-sound_pieces : goal.returns-else-sound_pieces
unfolding sound_open
returns-else-sound_pieces c =
    let i = inside (goal.at.returns-else-sound_pieces c).After-contains in
    let r = c.args.row in
    let e : c.if-contains.value ≡ ((leb 1 r.held && leb r.held 64) && sound_pieces r) =
    elim c.if-contains.branch [
      | then-contains w ↦ passed _ _ _ (sym i ∙ w.if-contains.true) (w.value-is ∙ w.sound_pieces.ensures)
      | else-contains w ↦ failed _ _ _ (sym i ∙ w.if-contains.false) (w.value-is ∙ i)
    ] in
    failed _ _ _ (sym e ∙ c.if-sound_pieces.false) e
