-- `sender::flush` meets its contract.
use Rattle.std.proofs.Common.{arith, eq-eqb, ne_eqb, eqb-true}
use Rattle.std.proofs.lemmas.Bool.{not-false}
use Rattle.std.proofs.lemmas.Result.{err_from_is_err_and}
use Rattle.framing.specs.Answers.{reply}
use Rattle.sender.specs.Answers.{given}
use Rattle.sender.specs.Calls.{flush_cases, flush}
use Rattle.sender.proofs.Ways.{Passed, flush-passes, unless-passed, unless-given, some_number}
use Rattle.sender.proofs.Facts.{in-range}
use Rattle.sender.proofs.flush.Goals as goal

pub returns-in_err-admit : goal.returns-in_err-admit
unfolding flush flush_cases reply given
returns-in_err-admit c =
    let s = c.args.s.now in
    let d = c.args.frame.now in
    let p = err_from_is_err_and c.from_residual.result c.from_residual.ensures.1 in
    rw (p.1, p.2) (unless-given s d _ (flush_cases s d) _ (some_number c.in_err-admit.field-0.0) c.in_err-admit.ensures)

pub returns-then-s-eq0 : goal.returns-then-s-eq0
unfolding flush reply given
returns-then-s-eq0 c =
    let s = c.args.s.now in
    let d = c.args.frame.now in
    rw (← unless-passed s d _ _ (flush-passes s d c.in_ok-admit.ensures), eq-eqb _ _ c.if-s-eq0.true)

pub close-requires : goal.close-requires
unfolding Passed flush_cases given
close-requires c =
    let s = c.args.s.now in
    let p = flush-passes s c.args.frame.now c.in_ok-admit.ensures in
    let same = eqb-true _ _ (not-false _ p.1.0) in
    let f = in-range s (not-false _ p.0) in
    omega arith

pub returns : goal.returns
unfolding flush given
returns c =
    let s = c.args.s.now in
    let d = c.args.frame.now in
    rw (← unless-passed s d _ _ (flush-passes s d c.in_ok-admit.ensures), ne_eqb _ _ c.if-s-eq0.false) c.close.ensures
