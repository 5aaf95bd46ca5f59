-- `sender::admit` meets its contract.
use borrow.Author.Tests.{eq-eqb, ne_eqb}
use Rattle.sender.specs.Answers.{first_of, given}
use Rattle.sender.proofs.admit.Goals as goal

pub returns-then-not-sound : goal.returns-then-not-sound
unfolding first_of given
returns-then-not-sound c = rw (← c.sound.ensures, c.if-not-sound.true)

pub returns-then-frame-s : goal.returns-then-frame-s
unfolding first_of given
returns-then-frame-s c = rw (← c.sound.ensures, c.if-not-sound.false, ne_eqb _ _ c.if-frame-s.true)

pub returns : goal.returns
unfolding first_of given
returns c = rw (← c.sound.ensures, c.if-not-sound.false, eq-eqb _ _ c.if-frame-s.false)
