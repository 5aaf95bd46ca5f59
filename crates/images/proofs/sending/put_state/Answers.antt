-- `images::sending::put_state` meets its contract.
use native.Mathlib.Omega.{arith}
use borrow.Author.Rules.{rules}
use Rattle.images.proofs.Fields.{state_written}
use Rattle.images.proofs.sending.put_state.Goals as goal

pub returns : goal.returns
returns c =
    state_written _ _ _ _ _ _ _ _ _ c.args.state _ _ (search rules) c.version_code-draft.ensures (omega arith)
    c.put_low.ensures c.put_low-2.ensures c.put_number.ensures c.put_array.ensures
    c.put_number-2.ensures c.put_low-3.ensures c.put_low-4.ensures c.put_number-3.ensures
