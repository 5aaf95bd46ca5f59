-- `row::sound_empty` meets its contract. The tests in the definition's order.
use borrow.Author.Rules.{rules}
use Rattle.row.specs.Row.{sound_empty}
use Rattle.row.proofs.sound_empty.Goals as goal

pub returns-then-row-eq0-2 : goal.returns-then-row-eq0-2
unfolding sound_empty
returns-then-row-eq0-2 c = search rules

pub returns-else-row-eq0-2 : goal.returns-else-row-eq0-2
unfolding sound_empty
returns-else-row-eq0-2 c = search rules
