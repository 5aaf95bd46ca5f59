-- `board::recordings::btpu_play` meets its contract.
use Rattle.playback.specs.Call.{results}
use Rattle.board.specs.Recordings.{played_as}
use Rattle.board.proofs.RecordingCalls.{played-by}
use Rattle.board.proofs.recordings.btpu_play.Goals as goal

pub returns-in-Ok : goal.returns-in-Ok
unfolding played_as
returns-in-Ok c =
    let a = c.args in
    played-by _ _ _ a.recording.now a.limit a.pool.now (results a.output.now a.lengths.now a.places.now a.reasons.now) a.res.now c.in-Ok.ensures

pub returns-in-Err : goal.returns-in-Err
unfolding played_as
returns-in-Err c =
    let a = c.args in
    rw c.from.ensures (played-by _ _ _ a.recording.now a.limit a.pool.now (results a.output.now a.lengths.now a.places.now a.reasons.now) a.res.now c.in-Err.ensures)
