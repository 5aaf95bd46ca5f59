-- `messages::run` meets its contract. The invariant `Going`: the run from the beginning over all messages is the run from here over those left.
use Prim.Native.Nat.{◌-◌}
use lib.ListN.{length}
use Rattle.messages.specs.Run.{going}
use Rattle.messages.proofs.Looping.{Going}
use Rattle.messages.proofs.run.Given as goal

abbrev pub invariant-loop-limits : goal.invariant-loop-limits
invariant-loop-limits l =
    Going l.limits l.frame (going l.initial.state l.initial.pool l.initial.output l.initial.lengths l.initial.numbers l.initial.progress)
    (going l.state l.pool l.output l.lengths l.numbers l.progress)

abbrev pub decreases-loop-limits : goal.decreases-loop-limits
decreases-loop-limits l = length l.frame - l.progress.next
