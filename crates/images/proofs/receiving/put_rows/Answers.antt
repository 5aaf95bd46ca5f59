use native.Mathlib.Omega.{arith}
use mathlib.Core.Path.{◌≡◌, refl, sym}
use lib.ListN.{length}
use Rattle.octets.proofs.Put.{put-none}
use Rattle.rows.proofs.Rows.{length_mapped}
use Rattle.images.specs.Receiver.{rows_image}
use Rattle.images.proofs.Rows.{rows_image-turn}
use borrow.Author.Rules.{rules}
use Rattle.images.proofs.receiving.put_rows.Goals.{Start}
use Rattle.images.proofs.receiving.put_rows.Goals as goal

pub loop-k-init : goal.loop-k-init
unfolding rows_image
loop-k-init c = (sym (put-none _ 8), refl)

full : (c : Start) → length c.args.rows ≡ 16
full c = search (rules, length_mapped)

pub loop-k-preserved : goal.loop-k-preserved
loop-k-preserved c =
    let l = c.loop-k in
    let f = full (goal.at.loop-k-preserved c).Start in
    rows_image-turn _ _ _ c.args.rows 8 l.k _ l.invariant.0 l.invariant.1 c.put_row.ensures.1 (omega arith) (omega arith) c.put_row.ensures.0
