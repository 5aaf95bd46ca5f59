use mathlib.Core.Path.{sym, ◌∙◌}
use Rattle.images.proofs.SenderImages.{read-some, read-none}
use Rattle.board.specs.Sender.{checked}
use Rattle.board.proofs.sending.btpu_sender_check.Goals as goal

pub returns-in_default : goal.returns-in_default
unfolding checked
returns-in_default c = rw (read-none c.args.state.now c.in_default.ensures)

pub returns-then-sound : goal.returns-then-sound
unfolding checked
returns-then-sound c =
    let p = read-some c.args.state.now c.in-Some.s c.in-Some.ensures in
    rw (p.0, p.1, sym c.sound.ensures ∙ c.if-sound.true)

pub returns-else-sound : goal.returns-else-sound
unfolding checked
returns-else-sound c =
    let p = read-some c.args.state.now c.in-Some.s c.in-Some.ensures in
    rw (p.0, p.1, sym c.sound.ensures ∙ c.if-sound.false)
