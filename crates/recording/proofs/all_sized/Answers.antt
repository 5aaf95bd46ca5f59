use mathlib.Core.Path.{refl}
use native.Mathlib.Omega.{arith}
use Rattle.recording.specs.Recording.{sized}
use Rattle.recording.proofs.Lengths.{sized-next}
use Rattle.recording.proofs.all_sized.Goals as goal

pub loop-length-init : goal.loop-length-init
unfolding sized
loop-length-init c = refl

pub loop-length-preserved : goal.loop-length-preserved
loop-length-preserved c =
    let l = c.loop-length in
    rw l.invariant (sized-next c.args.lengths.now l.length-index (omega arith))
