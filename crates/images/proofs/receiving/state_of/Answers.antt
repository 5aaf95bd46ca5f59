use native.Mathlib.Omega.{arith}
use mathlib.Core.Path.{◌≡◌, refl, ◌∙◌}
use Prim.Native.Nat.{◌+◌, ◌*◌}
use lib.ListN.{drop, length-set}
use Rattle.std.specs.Simd.{first_chunks}
use Rattle.images.specs.Receiver.{row_of, rows_of, row_size, state_of}
use Rattle.images.proofs.Rows.{parts_of, row_at, rows_turn, rows_end}
use Rattle.images.proofs.receiving.state_of.Goals as goal

pub loop-k-init : goal.loop-k-init
unfolding rows_of
loop-k-init c = (refl, refl)

pub loop-k-preserved : goal.loop-k-preserved
loop-k-preserved c =
    let l = c.loop-k in
    let xs = c.args.image.now in
    let parts : c.as_chunks.result.0.now ≡ first_chunks row_size 16 (drop 8 xs) = c.as_chunks.ensures.front ∙ parts_of 16 xs c.told-image in
    let row : c.row_of.result ≡ row_of (drop (8 + l.k * row_size) xs) = c.row_of.ensures ∙ rw parts (row_at 8 l.k 16 xs (omega arith)) in
    (rows_turn _ xs 8 l.k _ l.invariant.0 (omega arith) row, simp length-set l.invariant.1)

pub returns : goal.returns
unfolding state_of
returns c =
    let l = c.loop-k in
    rw (c.number_at.ensures, c.version_of.ensures, ← rows_end _ _ l.k 16 l.invariant.0 l.invariant.1 (omega arith))
