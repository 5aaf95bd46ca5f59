-- `window::standing_at` meets its contract. Each return by the tests on its way.
use Rattle.std.proofs.Common.{◌-◌, ◌^◌, arith, eq-eqb, ne_eqb, le-leb}
use borrow.Author.Tests.{lt-leb}
use Rattle.window.specs.Window.{standing}
use Rattle.window.proofs.standing_at.Goals as goal

pub returns-then-d-eq0 : goal.returns-then-d-eq0
unfolding standing
returns-then-d-eq0 c = rw (eq-eqb _ _ c.if-d-eq0.true)

pub returns-then-d-window : goal.returns-then-d-window
unfolding standing
returns-then-d-window c = rw (ne_eqb _ _ c.if-d-eq0.false, le-leb _ _ c.if-d-window.true)

pub returns-then-d-window-2 : goal.returns-then-d-window-2
unfolding standing
returns-then-d-window-2 c =
    let a = c.args in rw (ne_eqb _ _ c.if-d-eq0.false, lt-leb _ _ c.if-d-window.false, le-leb a.d (2 ^ 32 - a.window) (omega arith))

pub returns : goal.returns
unfolding standing
returns c =
    let a = c.args in rw (ne_eqb _ _ c.if-d-eq0.false, lt-leb _ _ c.if-d-window.false, lt-leb a.d (2 ^ 32 - a.window) (omega arith))
