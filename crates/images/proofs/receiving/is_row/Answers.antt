use borrow.Author.Rules.{rules}
use Rattle.images.specs.Receiver.{is_row}
use Rattle.images.proofs.receiving.is_row.Goals as goal

pub returns-then-octets-le4 : goal.returns-then-octets-le4
unfolding is_row
returns-then-octets-le4 c = search rules

pub returns-else-octets-le4 : goal.returns-else-octets-le4
unfolding is_row
returns-else-octets-le4 c = search rules
