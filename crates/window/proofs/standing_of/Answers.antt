-- `window::standing_of` meets its contract.
use Rattle.std.proofs.Common.{ap, ◌∙◌}
use Rattle.window.specs.Window.{standing, standing_of}
use Rattle.window.proofs.standing_of.Goals as goal

pub returns-then-present : goal.returns-then-present
unfolding standing_of
returns-then-present c = rw c.if-present.true (c.standing_at.ensures ∙ ap (standing _) c.distance.ensures)

pub returns : goal.returns
unfolding standing_of
returns c = rw c.if-present.false
