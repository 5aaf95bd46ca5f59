-- `frames::run_frames` meets its contract. The invariant `Passing`: all frames from the beginning are those left from here.
use Rattle.messages.specs.Run.{going}
use Rattle.frames.specs.Frames.{set_out}
use Rattle.frames.proofs.Passing.{Passing}
use Rattle.frames.proofs.run_frames.Given as goal

abbrev pub invariant-loop-size : goal.invariant-loop-size
invariant-loop-size l =
    Passing l.limits l.frames.sizes.now l.frames.octets.now (set_out (going l.initial.state l.initial.pool l.initial.output l.initial.lengths l.initial.numbers l.initial.progress) l.initial.places l.initial.reasons l.first) l.size-index l.at
    (record { run = going l.state l.pool l.output l.lengths l.numbers l.progress; places = l.places; reasons = l.reasons; refused = l.refused; frame = l.frame })
