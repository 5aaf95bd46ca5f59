-- `messages::row_turn` meets its contract.
use mathlib.Core.Path.{◌≡◌, refl}
use lib.ListN.{length}
use Rattle.reassembly.specs.Rules.{cancel_step, delivery_of, written}
use Rattle.messages.specs.Run.{row_step}
use Rattle.messages.proofs.Admits.{part_to_end}
use borrow.Author.Rules.{rules}
use Rattle.messages.proofs.row_turn.Goals.{Start}
use Rattle.messages.proofs.row_turn.Goals as goal

long : (c : Start) → (length c.args.sound.row.indexes ≡ 64) × (length c.args.sound.row.lengths ≡ 64)
long c = (search rules, search rules)

pub returns-in-Pass : goal.returns-in-Pass
unfolding row_step delivery_of written
returns-in-Pass c =
    (rw c.in-Pass.is record { row = refl; delivery = refl; cell = refl; output = refl }, (long (goal.at.returns-in-Pass c).Start).0, (long (goal.at.returns-in-Pass c).Start).1)

pub returns-in-HandOut : goal.returns-in-HandOut
unfolding row_step delivery_of written
returns-in-HandOut c =
    (rw c.in-HandOut.is record { row = refl; delivery = refl; cell = refl; output = c.copy_into.ensures }, (long (goal.at.returns-in-HandOut c).Start).0, (long (goal.at.returns-in-HandOut c).Start).1)

pub returns-in-Piece : goal.returns-in-Piece
unfolding row_step
returns-in-Piece c =
    (rw (c.in-Piece.is, ← part_to_end 8 c.args.content.now, ← c.number_at-index.ensures) c.take_piece.ensures, (long (goal.at.returns-in-Piece c).Start).0, (long (goal.at.returns-in-Piece c).Start).1)

pub returns-in-Cancel : goal.returns-in-Cancel
unfolding row_step cancel_step delivery_of written
returns-in-Cancel c =
    (rw c.in-Cancel.is record { row = c.cancelled.ensures; delivery = refl; cell = refl; output = refl }, (long (goal.at.returns-in-Cancel c).Start).0, (long (goal.at.returns-in-Cancel c).Start).1)
