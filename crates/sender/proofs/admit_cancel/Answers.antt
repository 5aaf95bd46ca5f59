-- `sender::admit_cancel` meets its contract.
use Rattle.std.proofs.lemmas.Result.{err_from_is_err_and}
use Rattle.sender.specs.Answers.{first_of, given}
use Rattle.sender.specs.Calls.{cancel_cases}
use Rattle.sender.proofs.Ways.{some_number, common-passed, common-given}
use Rattle.sender.proofs.admit_cancel.Goals as goal

pub returns-in_err-admit : goal.returns-in_err-admit
unfolding cancel_cases given
returns-in_err-admit c =
    let p = err_from_is_err_and c.from_residual.result c.from_residual.ensures.1 in
    rw (p.1, p.2) (common-given c.args.s c.args.frame.now _ _ (some_number c.in_err-admit.field-0.0) c.in_err-admit.ensures)

pub returns-then-not-s : goal.returns-then-not-s
unfolding cancel_cases given first_of
returns-then-not-s c = rw (← common-passed c.args.s c.args.frame.now _ c.in_ok-admit.ensures, c.if-not-s.true)

pub returns : goal.returns
unfolding cancel_cases given first_of
returns c = rw (← common-passed c.args.s c.args.frame.now _ c.in_ok-admit.ensures, c.if-not-s.false)
