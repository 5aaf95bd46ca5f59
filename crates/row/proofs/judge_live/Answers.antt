-- `row::judge_live` meets its contract. The tests in the definition's order.
use Prim.Native.Nat.{◌+◌}
use native.Mathlib.Omega.{arith}
use lib.ListN.{take}
use borrow.Author.Tests.{lt-ltb, le-ltb}
use Rattle.octets.specs.Octets.{sum_of}
use Rattle.pieces.specs.Pieces.{bundle_max}
use Rattle.row.proofs.Sound.{sound_facts}
use Rattle.row.specs.Row.{indexes_of, lengths_of, contradicts, judge_live}
use Rattle.row.proofs.judge_live.Goals as goal

pub returns-then-index-gt63 : goal.returns-then-index-gt63
unfolding judge_live
returns-then-index-gt63 c = rw (lt-ltb 63 c.args.index c.if-index-gt63.true)

pub shared_ref_as_front-scan_for : goal.shared_ref_as_front-scan_for
shared_ref_as_front-scan_for c = omega (arith, (sound_facts c.args.sound.row c.args.sound.sound).few)

pub returns-then-contradicts : goal.returns-then-contradicts
unfolding judge_live contradicts indexes_of
returns-then-contradicts c =
    let a = c.args in
    rw (le-ltb 63 a.index c.if-index-gt63.false, ← c.scan_for-scan.ensures.held, ← c.scan_for-scan.ensures.above, ← c.contradicts.ensures, c.if-contradicts.true)

pub returns-then-scan : goal.returns-then-scan
unfolding judge_live contradicts indexes_of
returns-then-scan c =
    let a = c.args in
    rw (le-ltb 63 a.index c.if-index-gt63.false, ← c.scan_for-scan.ensures.held, ← c.scan_for-scan.ensures.above, ← c.contradicts.ensures, c.if-contradicts.false, c.if-scan.true)

pub overflow_sub-at : goal.overflow_sub-at
unfolding lengths_of
overflow_sub-at c = omega (arith, (sound_facts c.args.sound.row c.args.sound.sound).fits, c.sum_of-at.ensures)

pub returns-then-at-length : goal.returns-then-at-length
unfolding judge_live contradicts indexes_of lengths_of
returns-then-at-length c =
    let a = c.args in
    let over = lt-ltb bundle_max (sum_of (take a.sound.row.held a.sound.row.lengths) + a.length) (omega (arith, c.sum_of-at.ensures)) in
    rw (le-ltb 63 a.index c.if-index-gt63.false, ← c.scan_for-scan.ensures.held, ← c.scan_for-scan.ensures.above, ← c.contradicts.ensures, c.if-contradicts.false, c.if-scan.false, over)

pub returns : goal.returns
unfolding judge_live contradicts indexes_of lengths_of
returns c =
    let a = c.args in
    let o = c.sum_of-at.ensures in
    let fits = le-ltb bundle_max (sum_of (take a.sound.row.held a.sound.row.lengths) + a.length) (omega (arith, o, (sound_facts a.sound.row a.sound.sound).fits)) in
    rw (le-ltb 63 a.index c.if-index-gt63.false, ← c.scan_for-scan.ensures.held, ← c.scan_for-scan.ensures.above, ← c.contradicts.ensures, c.if-contradicts.false, c.if-scan.false, fits, o)
