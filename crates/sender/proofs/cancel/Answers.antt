-- `sender::cancel` meets its contract.
use Rattle.std.proofs.Common.{◌∙◌, arith, eqb-true}
use Rattle.std.proofs.lemmas.Bool.{not-false}
use Rattle.std.proofs.lemmas.Result.{err_from_is_err_and}
use Rattle.framing.specs.Answers.{reply}
use Rattle.sender.specs.Answers.{given}
use Rattle.sender.specs.Calls.{cancel_cases, cancel}
use Rattle.sender.proofs.Ways.{Passed, cancel-passes, unless-passed, unless-given, some_number}
use Rattle.sender.proofs.Facts.{in-range, in-transfer}
use Rattle.sender.proofs.cancel.Goals as goal

pub returns-in_err-admit_cancel : goal.returns-in_err-admit_cancel
unfolding cancel reply given
returns-in_err-admit_cancel c =
    let s = c.args.s.now in
    let d = c.args.frame.now in
    let p = err_from_is_err_and c.from_residual.result c.from_residual.ensures.1 in
    rw (p.1, p.2) (unless-given s d _ (cancel_cases s d) _ (some_number c.in_err-admit_cancel.field-0.0) c.in_err-admit_cancel.ensures)

pub cancelling-requires : goal.cancelling-requires
unfolding Passed cancel_cases given
cancelling-requires c =
    let s = c.args.s.now in
    let p = cancel-passes s c.args.frame.now c.in_ok-admit_cancel.ensures in
    let ok = not-false _ p.0 in
    let same = eqb-true _ _ (not-false _ p.1.0) in
    let f = in-range s ok in
    let g = in-transfer s ok (not-false _ p.1.1.0) in
    omega arith

pub returns : goal.returns
unfolding cancel given
returns c =
    let s = c.args.s.now in
    let d = c.args.frame.now in
    c.cancelling.ensures ∙ unless-passed s d _ _ (cancel-passes s d c.in_ok-admit_cancel.ensures)
