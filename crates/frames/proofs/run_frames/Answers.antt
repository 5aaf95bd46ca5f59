use mathlib.Core.Path.{◌≡◌, sym, ap, ◌∙◌}
use mathlib.Core.Bool.{true, and-false}
use mathlib.Core.List.{List}
use mathlib.Core.Option.{some}
use Prim.Native.Nat.{ℕ, ◌+◌, ◌-◌, ◌<◌}
use native.Mathlib.Omega.{arith}
use lib.ListN.{length, get_or, take, drop}
use borrow.Author.Tests.{lt-ltb, le-ltb}
use Rattle.octets.proofs.Flags.{and}
use Rattle.octets.proofs.Admitting.{denied, admitted}
use Rattle.messages.specs.Run.{going}
use Rattle.receiver.specs.Receive.{number_of, unfit}
use Rattle.frames.specs.Frames.{Reach, set_out}
use Rattle.frames.proofs.Passing.{draft_at, goes_on, ends, inside, refuses, fits, stopped, passes}
use Rattle.receiver.proofs.Refusals.{number-some}
use Rattle.receiver.specs.declared.Refusal.{Refusal}
use Rattle.std.proofs.Common.{Ok, Err}
use Rattle.frames.proofs.run_frames.Goals as goal
use Rattle.frames.proofs.run_frames.Goals.{Else-not-roomy, After-admit_frame, in-Err, in_default+else-progress-pdu}

-- once the tests of the loop have passed
module _ (c : Else-not-roomy) where
  abbrev now : Reach
  now = let l = c.loop-size in record { run = going l.state l.pool l.output l.lengths l.numbers l.progress; places = l.places; reasons = l.reasons; refused = l.refused; frame = l.frame }

  test : goes_on c.args.limits c.args.frames.sizes.now c.loop-size.size-index now ≡ true
  test = and _ _ (lt-ltb _ _ c.loop-size-test.true) (sym c.roomy.ensures ∙ c.if-not-roomy.false)

module _ (c : After-admit_frame) where
  abbrev first : Reach
  first = let a = c.args in set_out (going a.state.now a.pool.now a.output.now a.lengths.now a.numbers.now a.from) a.places.now a.reasons.now a.first

  abbrev pdu : List ℕ
  pdu = let l = c.loop-size in take (l.at + get_or c.args.frames.sizes.now l.size-index 0 - l.at) (drop l.at c.args.frames.octets.now)

  -- the frame is refused, or it isn't
  denied-for : (q : Refusal) → c.admit_frame.result ≡ Err q → number_of (unfit (draft_at first) pdu c.loop-size.progress.next) ≡ number_of (some q)
  denied-for q e = ap number_of (denied _ q (sym c.admit_frame.ensures ∙ e))

  taken : c.admit_frame.result ≡ Ok (tt {0}) → 0 ≡ number_of (unfit (draft_at first) pdu c.loop-size.progress.next)
  taken e = sym (ap number_of (admitted _ (sym c.admit_frame.ensures ∙ e)))

pub slice_bounds-pdu-end : goal.slice_bounds-pdu-end
slice_bounds-pdu-end c = omega (arith, inside c.loop-size.invariant (test (goal.at.slice_bounds-pdu-end c).Else-not-roomy))

pub run-progress-requires : goal.run-progress-requires
run-progress-requires c =
    let g = goal.at.run-progress-requires c in
    let f = fits c.loop-size.invariant (test g.Else-not-roomy) 0 (taken g.After-admit_frame c.in_default.is) (omega arith) in
    (c.loop-size.invariant.able, f.small, f.accepted)

pub loop-size-preserved : goal.loop-size-preserved
loop-size-preserved c =
    let P = c.loop-size.invariant in
    let g = goal.at.loop-size-preserved c in
    elim c.match-admit_frame.branch [
      | in-Err w ↦
          let q = w.in-Err.refusal in
          let n : 0 < number_of (some q) = number-some q in
          rw (w.state-is, w.pool-is, w.output-is, w.lengths-is, w.numbers-is, w.places-is, w.reasons-is, w.progress-is, w.refused-is, w.note.ensures.0, w.note.ensures.1, w.from.ensures)
          (refuses P (test g.Else-not-roomy) (number_of (some q)) (sym (denied-for g.After-admit_frame q w.in-Err.is)) n)
      | in_default+else-progress-pdu w ↦
          rw (w.state-is, w.pool-is, w.output-is, w.lengths-is, w.numbers-is, w.places-is, w.reasons-is, w.progress-is, w.refused-is)
          (passes P (test g.Else-not-roomy) 0 (taken g.After-admit_frame w.in_default.is) (omega arith) _ w.run-progress.ensures.0 (omega (arith, w.if-progress-pdu.false)) w.run-progress.ensures.1
          (record { pool = w.run-progress.auto.pool; output = w.run-progress.auto.output; lengths = w.run-progress.auto.lengths; numbers = w.run-progress.auto.numbers }))
    ]

pub returns-after-loop-size : goal.returns-after-loop-size
returns-after-loop-size c = ends c.loop-size.invariant (rw (le-ltb c.loop-size.size-index (length c.args.frames.sizes.now) c.loop-size-test.false))

pub returns-then-not-roomy : goal.returns-then-not-roomy
returns-then-not-roomy c = ends c.loop-size.invariant (rw (← c.roomy.ensures, c.if-not-roomy.true) (and-false _))

pub returns-then-progress-pdu : goal.returns-then-progress-pdu
returns-then-progress-pdu c =
    let g = goal.at.returns-then-progress-pdu c in
    stopped c.loop-size.invariant (test g.Else-not-roomy) 0 (taken g.After-admit_frame c.in_default.is) (omega arith) _ c.run-progress.ensures.0 (omega (arith, c.if-progress-pdu.true))
