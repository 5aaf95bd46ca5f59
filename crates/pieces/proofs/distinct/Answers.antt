use mathlib.Core.Path.{refl}
use native.Mathlib.Omega.{arith}
use lib.ListN.{length-set}
use Rattle.pieces.proofs.Apart.{apart_none, apart-high, apart-turn, apart-end}
use Rattle.pieces.proofs.distinct.Goals as goal

pub loop-index-init : goal.loop-index-init
loop-index-init c = (apart_none _, refl)

pub returns-then-x-gt63 : goal.returns-then-x-gt63
returns-then-x-gt63 c =
    let l = c.loop-index in
    apart-high _ l.twice l.seen l.index-index c.args.indexes.now l.invariant.0 (omega arith) c.if-x-gt63.true

pub loop-index-preserved : goal.loop-index-preserved
loop-index-preserved c =
    let l = c.loop-index in
    (apart-turn _ l.twice l.seen l.index-index c.args.indexes.now l.invariant.0 (omega arith) c.if-x-gt63.false, simp length-set l.invariant.1)

pub returns : goal.returns
returns c = let l = c.loop-index in apart-end _ l.twice l.seen l.index-index c.args.indexes.now l.invariant.0 (omega arith)
