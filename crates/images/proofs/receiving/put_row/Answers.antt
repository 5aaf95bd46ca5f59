-- `images::receiving::put_row` meets its contract.
use Rattle.row.proofs.Shaped.{Shaped}
use Rattle.images.proofs.Rows.{row_written}
use borrow.Author.Rules.{rules}
use Rattle.images.proofs.receiving.put_row.Goals.{Start}
use Rattle.images.proofs.receiving.put_row.Goals as goal

shaped : (c : Start) → Shaped c.args.row
shaped c = record { indexes64 = search rules; lengths64 = search rules }

pub returns : goal.returns
returns c =
    row_written _ _ _ _ c.args.at c.args.row (shaped (goal.at.returns c).Start) _ _ c.phase_code-code.ensures (search rules) c.requires c.put_array.ensures c.copy_into.ensures c.put_pairs.ensures
