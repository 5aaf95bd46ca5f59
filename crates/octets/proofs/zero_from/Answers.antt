use native.Mathlib.Nat.{le_refl}
use native.Mathlib.Omega.{arith}
use borrow.Rule.Slice.PartMut.{mid_len}
use lib.ListN.{length, length-replicate}
use Rattle.octets.proofs.Put.{put-mid}
use Rattle.octets.proofs.zero_from.Goals as goal

pub returns : goal.returns
returns c =
    let a = c.args in
    rw (c.fill.ensures.after (λ y e. e), mid_len a.at (length a.to.now) a.to.now (le_refl _))
    (put-mid a.to.now a.at (length a.to.now) _ (rw length-replicate (omega arith)))
