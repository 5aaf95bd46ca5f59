-- `recording::all_sized` meets its contract. What was found is the answer for the lengths passed.
use Rattle.std.proofs.Common.{◌≡◌, take}
use Rattle.recording.specs.Recording.{sized}
use Rattle.recording.proofs.all_sized.Given as goal

abbrev pub invariant-loop-length : goal.invariant-loop-length
invariant-loop-length l = l.good ≡ sized (take l.length-index l.lengths)
