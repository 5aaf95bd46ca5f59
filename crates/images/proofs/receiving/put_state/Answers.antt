-- `images::receiving::put_state` meets its contract.
use borrow.Author.Rules.{rules}
use Rattle.images.proofs.Rows.{state_written}
use Rattle.images.proofs.receiving.put_state.Goals as goal

pub returns : goal.returns
returns c =
    state_written _ _ _ _ c.args.state _ _ (search rules) c.version_code-draft.ensures (search rules) c.put_array.ensures c.put_number.ensures c.put_rows.ensures.0 c.put_rows.ensures.1
