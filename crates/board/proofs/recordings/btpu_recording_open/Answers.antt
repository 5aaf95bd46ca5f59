-- `board::recordings::btpu_recording_open` meets its contract.
use native.Mathlib.Omega.{arith}
use mathlib.Core.Path.{refl}
use Rattle.recording.proofs.Opens.{opens_good}
use Rattle.board.proofs.RecordingCalls.{opened-good, opened-not}
use Rattle.board.proofs.recordings.btpu_recording_open.Goals as goal

pub octets_start-start-requires : goal.octets_start-start-requires
octets_start-start-requires c =
    omega (arith, (opens_good c.args.recording.now _ _ c.in-Ok.ensures refl).few)

pub returns-in-Ok : goal.returns-in-Ok
returns-in-Ok c =
    let a = c.args in
    rw (c.copy_from_slice.ensures.after, c.octets_start-start.ensures) (opened-good a.recording.now _ c.in-Ok.ensures a.sizes.now a.res.now c.in-Ok.opened refl)

pub returns-in-Err : goal.returns-in-Err
returns-in-Err c =
    let a = c.args in rw c.from.ensures (opened-not a.recording.now _ c.in-Err.ensures a.sizes.now a.res.now _ refl)
