-- `pieces::all_held` meets its contract. Every index below i is held, and the others lie from the place on; the inner loop has passed no piece of i.
use Rattle.std.proofs.Common.{◌≡◌, ◌+◌, true, drop}
use Rattle.pieces.proofs.Passing.{Left}
use Rattle.pieces.specs.Pieces.{has, has_all}
use Rattle.pieces.proofs.all_held.Given as goal

abbrev pub invariant-search : goal.invariant-search
invariant-search l = (l.all ≡ true) × (has_all l.i l.indexes ≡ true) × Left l.i l.place l.indexes

abbrev pub invariant-loop-x : goal.invariant-loop-x
invariant-loop-x l = has l.i l.indexes ≡ has l.i (drop (l.place + l.x-index) l.indexes)
