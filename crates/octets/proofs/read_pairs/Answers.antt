use mathlib.Core.Path.{sym, ◌∙◌}
use Rattle.std.proofs.Common.{arith, ◌/◌, length, replicate}
use lib.ListN.{length-replicate}
use Rattle.octets.specs.Octets.{pairs, number16}
use Rattle.octets.proofs.Put.{put-none}
use Rattle.octets.proofs.Pairs.{pairs-put, pair_at}
use Rattle.octets.proofs.read_pairs.Goals as goal

pub loop-j-init : goal.loop-j-init
unfolding pairs
loop-j-init g c = sym (put-none _ 0)

pub loop-j-preserved : goal.loop-j-preserved
unfolding number16
loop-j-preserved g c =
    let l = c.loop-j in
    let xs = c.args.octets.now in
    let v = pair_at l.j (length xs / 2) xs (omega (arith, c.as_chunks.ensures.front_len)) in
    rw l.invariant (pairs-put (replicate g.row.N 0) xs l.j _ (rw length-replicate (omega (arith, c.as_chunks.ensures.front_len))) (c.from_be_bytes.ensures ∙ rw c.as_chunks.ensures.front v))
