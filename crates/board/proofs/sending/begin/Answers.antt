-- `board::sending::begin` meets its contract.
use Rattle.board.proofs.SenderCalls.{sender_made, sender_denied}
use Rattle.board.proofs.sending.begin.Goals as goal

pub returns-in-Ok : goal.returns-in-Ok
returns-in-Ok c = sender_made _ _ _ _ _ _ c.in-Ok.ensures c.put_state.ensures

pub returns-in-Err : goal.returns-in-Err
returns-in-Err c = sender_denied _ _ _ _ _ _ c.in-Err.ensures c.from.ensures
