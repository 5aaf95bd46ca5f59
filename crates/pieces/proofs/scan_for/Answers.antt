use mathlib.Core.Path.{refl}
use native.Mathlib.Omega.{arith}
use Rattle.pieces.proofs.Lists.{has-next, above-next}
use Rattle.pieces.specs.Pieces.{has, has_above}
use Rattle.pieces.proofs.scan_for.Goals as goal

pub loop-x-init : goal.loop-x-init
unfolding has has_above
loop-x-init c = (refl, refl)

pub loop-x-preserved : goal.loop-x-preserved
loop-x-preserved c =
    let l = c.loop-x in
    let a = c.args in
    (rw l.invariant.0 (has-next a.index l.x-index a.indexes.now (omega arith)), rw l.invariant.1 (above-next a.index l.x-index a.indexes.now (omega arith)))
