-- `recording::unwritable` meets its contract.
use Rattle.std.proofs.lemmas.Grind.{common_steps}
use Rattle.std.proofs.Common.{arith}
use Rattle.recording.specs.Recording.{unwritable, verdict}
use Rattle.recording.proofs.unwritable.Goals as goal
use Rattle.recording.proofs.unwritable.Goals.{then-frames-gt-FRAMES_MAX-via-then-frames-gt-FRAMES_MAX, then-frames-gt-FRAMES_MAX-via-else-frames-gt-FRAMES_MAX+then-frames-gt-OCTETS_MAX}

pub returns-then-frames-gt-FRAMES_MAX : goal.returns-then-frames-gt-FRAMES_MAX
unfolding unwritable verdict
returns-then-frames-gt-FRAMES_MAX c =
    elim c.then-frames-gt-FRAMES_MAX.branch [
      | then-frames-gt-FRAMES_MAX-via-then-frames-gt-FRAMES_MAX w ↦ grind (arith, common_steps, w.if-frames-gt-FRAMES_MAX.true)
      | then-frames-gt-FRAMES_MAX-via-else-frames-gt-FRAMES_MAX+then-frames-gt-OCTETS_MAX w ↦ grind (arith, common_steps, w.if-frames-gt-OCTETS_MAX.true)
    ]

pub returns : goal.returns
unfolding unwritable
returns c = grind (arith, common_steps, c.weigh.ensures)
