-- `images::receiving::row_of` meets its contract.
use mathlib.Core.Path.{◌≡◌}
use native.Mathlib.Omega.{arith}
use lib.ListN.{length, take, drop, length-drop}
use lib.Seq.{length-take-le}
use Rattle.octets.proofs.Pairs.{pairs_full, pairs-take}
use Rattle.images.specs.Receiver.{row_of}
use Rattle.images.proofs.receiving.row_of.Goals as goal

pub returns : goal.returns
unfolding row_of
returns c =
    let ys = drop 68 c.args.octets.now in
    let full : length (take 128 ys) ≡ 128 = length-take-le 128 ys (rw length-drop (omega arith)) in
    rw (c.phase_of.ensures, c.indexes_of.ensures, c.read_pairs.ensures, pairs_full 64 (take 128 ys) full, pairs-take 64 ys)
