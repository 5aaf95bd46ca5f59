-- `recording::write` meets its contract.
use Rattle.recording.specs.Recording.{Recording, unwritable, writes, write}
use Rattle.recording.proofs.Reading.{fit, unfit}
use Rattle.recording.proofs.Writes.{Writable, writable, length-written, put_written}
use Rattle.std.proofs.lemmas.Result.{err_from_is_err_and}
use mathlib.Core.Path.{◌≡◌, refl, sym, ◌∙◌}
use mathlib.Core.Option.{none}
use Prim.Native.Nat.{◌+◌, ◌-◌, ◌*◌}
use native.Mathlib.Omega.{arith}
use lib.ListN.{length}
use borrow.Author.Tests.{lt-ltb, le-ltb}
use Rattle.recording.proofs.write.Goals as goal
use Rattle.recording.proofs.write.Goals.{In_ok-unwritable}

module _ (c : goal.In_ok-unwritable) where
  abbrev r : Recording
  r = record { lengths = c.args.lengths.now; octets = c.args.joined.now }

  fits : unwritable r ≡ none
  fits = fit (unwritable r) (sym c.unwritable.ensures ∙ c.in_ok-unwritable.was)

  bounds : Writable r
  bounds = writable r fits

pub returns-in_err-unwritable : goal.returns-in_err-unwritable
unfolding write writes
returns-in_err-unwritable c =
    let a = c.args in
    let r : Recording = record { lengths = a.lengths.now; octets = a.joined.now } in
    let p = err_from_is_err_and c.from_residual.result c.from_residual.ensures.1 in
    rw (unfit (unwritable r) _ (sym c.unwritable.ensures ∙ c.in_err-unwritable.was), p.1, p.2) refl

pub overflow_add-total : goal.overflow_add-total
overflow_add-total c = let B = bounds (goal.at.overflow_add-total c).In_ok-unwritable in omega arith

pub returns-then-output-total : goal.returns-then-output-total
unfolding write writes
returns-then-output-total c =
    let at = (goal.at.returns-then-output-total c).In_ok-unwritable in
    rw (fits at, length-written (r at), lt-ltb _ _ (rw c.octets_start-start.ensures at c.if-output-total.true)) refl

pub overflow_cast-n : goal.overflow_cast-n
overflow_cast-n c = let B = bounds (goal.at.overflow_cast-n c).In_ok-unwritable in omega arith

pub overflow_cast-m : goal.overflow_cast-m
overflow_cast-m c = let B = bounds (goal.at.overflow_cast-m c).In_ok-unwritable in omega arith

pub returns : goal.returns
unfolding write writes
returns c =
    let at = (goal.at.returns c).In_ok-unwritable in
    let n = length c.args.lengths.now in
    let start : c.octets_start-start.result ≡ 8 + n * 2 = c.octets_start-start.ensures in
    let count : c.octets_start-start.result - 4 ≡ 4 + n * 2 = omega arith in
    let h = rw start at c.if-output-total.false in
    rw (start, fits at, length-written (r at), le-ltb _ _ h, put_written _ _ _ _ _ (r at) h c.put_number.ensures c.put_pairs.ensures (rw count at c.put_number-2.ensures) (rw start at c.copy_long.ensures)) refl
