-- `framing::placing` meets its contract.
use Rattle.std.proofs.Common.{◌+◌, ◌≤◌, refl, length, arith, le-leb}
use borrow.Author.Tests.{lt-leb}
use Rattle.wire.specs.Message.{bundle, content_length}
use Rattle.writing.proofs.Written.{length-written}
use Rattle.framing.specs.Placing.{placing}
use Rattle.framing.proofs.Steps.{is-added}
use Rattle.framing.proofs.placing.Goals as goal
use Rattle.framing.proofs.placing.Goals.{then-n-s, else-n-s}

pub returns-then-n-room : goal.returns-then-n-room
unfolding placing content_length
returns-then-n-room c =
    let a = c.args in
    let s = a.s.now in
    let fits : length a.bundle.now + 4 ≤ s.size = omega arith in
    rw (le-leb _ _ fits, le-leb _ _ c.if-n-room.true)
    (is-added _ s _ _ _ (bundle a.bundle.now) a.frame.now _ refl c.advanced.ensures (omega (arith, length-written s.version (bundle a.bundle.now))) (c.put_bundle.ensures s.version))

pub returns-then-tight : goal.returns-then-tight
unfolding placing
returns-then-tight c =
    elim c.if-n-s.branch [
      | then-n-s w ↦ rw (le-leb _ _ w.if-n-s.true, lt-leb _ _ c.if-n-room.false) c.close.ensures
      | else-n-s w ↦ rw (lt-leb _ _ w.if-n-s.false, ← w.tight.ensures, ← w.value-is, c.if-tight.true) c.close.ensures
    ]

pub returns-else-tight : goal.returns-else-tight
unfolding placing
returns-else-tight c =
    elim c.if-n-s.branch [
      | then-n-s w ↦ let small = le-leb _ _ w.if-n-s.true in cc
      | else-n-s w ↦ rw (lt-leb _ _ w.if-n-s.false, ← w.tight.ensures, ← w.value-is, c.if-tight.false) c.place_piece.ensures
    ]
