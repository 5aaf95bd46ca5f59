use mathlib.Core.Path.{◌∙◌, ap, ◌≡◌, sym}
use Prim.Native.Nat.{ℕ, ◌≤◌, ◌<◌, ◌%◌}
use native.Mathlib.Omega.{arith}
use lib.ListN.{length-set, length}
use Rattle.window.specs.Window.{Window}
use Rattle.window.proofs.Entering.{row_below}
use Rattle.window.proofs.Sizes.{window_of_lem, window_range}
use Rattle.rows.specs.Message.{freed_from}
use Rattle.rows.proofs.Rows.{freed-least, freed-none, freed-turn}
use borrow.Author.Rules.{rules}
use Rattle.rows.proofs.freed.Goals.{Start}
use Rattle.rows.proofs.freed.Goals as goal

-- what the window is known to be
module _ (c : Start) where
  win : Window c.args.window
  win = window_of_lem c.args.window c.requires

  range : (4 ≤ c.args.window) × (c.args.window ≤ 16)
  range = window_range c.args.window win

  below : (n : ℕ) → n % c.args.window < c.args.window
  below n = row_below c.args.window win n

  full : length c.args.rows ≡ 16
  full = search rules

pub loop-j-init : goal.loop-j-init
loop-j-init c =
    let a = c.args in
    let g = (goal.at.loop-j-init c).Start in
    (omega (arith, c.min-j-end.ensures), sym (freed-none a.window (win g) a.greatest a.rows (omega (arith, range g, full g))), full g)

pub loop-j-preserved : goal.loop-j-preserved
loop-j-preserved c =
    let l = c.loop-j in
    let a = c.args in
    let g = (goal.at.loop-j-preserved c).Start in
    (l.invariant.0, rw (c.row_of-slot.ensures, c.empty_row-free.ensures, l.invariant.1) (freed-turn a.window (win g) a.greatest a.rows (omega (arith, range g, full g)) l.j (omega (arith, l.invariant.0))), simp length-set l.invariant.2)

pub returns : goal.returns
returns c =
    let l = c.loop-j in
    let a = c.args in
    let g = (goal.at.returns c).Start in
    let n : l.j ≡ c.min-j-end.result = omega arith in
    l.invariant.1 ∙ ap (λ (n : ℕ). freed_from a.window 0 a.greatest n a.rows) (n ∙ c.min-j-end.ensures) ∙ freed-least a.window (win g) a.greatest a.rows (omega (arith, range g, full g)) a.entered
