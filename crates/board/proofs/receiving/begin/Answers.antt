use Rattle.board.proofs.ReceiverCalls.{receiver-made, receiver-denied}
use Rattle.board.proofs.receiving.begin.Goals as goal

pub returns-in-Ok : goal.returns-in-Ok
returns-in-Ok c = receiver-made _ _ _ c.in-Ok.fresh _ c.in-Ok.ensures c.put_state.ensures

pub returns-in-Err : goal.returns-in-Err
returns-in-Err c = receiver-denied _ _ _ c.in-Err.refusal _ c.in-Err.ensures c.from.ensures
