-- `images::receiving::state_of` meets its contract. The first k rows are read.
use mathlib.Core.Path.{◌≡◌}
use lib.ListN.{length, take, drop}
use Rattle.images.specs.Receiver.{rows_of}
use Rattle.images.proofs.receiving.state_of.Given as goal

abbrev pub invariant-loop-k : goal.invariant-loop-k
invariant-loop-k l = (take l.k l.row-items ≡ rows_of l.k (drop 8 l.image)) × (length l.row-items ≡ 16)
