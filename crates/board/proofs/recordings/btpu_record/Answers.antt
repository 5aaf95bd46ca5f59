-- `board::recordings::btpu_record` meets its contract.
use Rattle.board.specs.Recordings.{written}
use Rattle.board.proofs.RecordingCalls.{recorded-by}
use Rattle.board.proofs.recordings.btpu_record.Goals as goal

pub returns-in-Ok : goal.returns-in-Ok
unfolding written
returns-in-Ok c =
    let a = c.args in recorded-by _ _ a.sizes.now a.joined.now a.output.now a.res.now c.in-Ok.ensures

pub returns-in-Err : goal.returns-in-Err
unfolding written
returns-in-Err c =
    let a = c.args in rw c.from.ensures (recorded-by _ _ a.sizes.now a.joined.now a.output.now a.res.now c.in-Err.ensures)
