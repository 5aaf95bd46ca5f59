-- `recorded::show_bundles` meets its contract. Each bundle starts within the octets that were played.
use Rattle.std.proofs.Common.{◌≤◌, length}
use Rattle.recorded.proofs.show_bundles.Given as goal

abbrev pub invariant-loop-n : goal.invariant-loop-n
invariant-loop-n g l = l.at ≤ length l.output
