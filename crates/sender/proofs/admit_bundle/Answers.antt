-- `sender::admit_bundle` meets its contract.
use borrow.Author.Tests.{eq-eqb, ne_eqb, lt-ltb, le-ltb}
use Rattle.std.proofs.lemmas.Result.{err_from_is_err_and}
use Rattle.sender.specs.Answers.{first_of, given}
use Rattle.sender.specs.Calls.{place_cases}
use Rattle.sender.proofs.Ways.{some_number, common-passed, common-given}
use Rattle.sender.proofs.admit_bundle.Goals as goal
use Rattle.sender.proofs.admit_bundle.Goals.{then-is_empty-via-then-is_empty, then-is_empty-via-else-is_empty+then-bundle-gt-BUNDLE_MAX, else-s-via-then-s+else-bundle-s, else-s-via-else-s}

pub returns-in_err-admit : goal.returns-in_err-admit
unfolding place_cases given
returns-in_err-admit c =
    let p = err_from_is_err_and c.from_residual.result c.from_residual.ensures.1 in
    rw (p.1, p.2) (common-given c.args.s c.args.frame.now _ _ (some_number c.in_err-admit.field-0.0) c.in_err-admit.ensures)

pub returns-then-is_empty : goal.returns-then-is_empty
unfolding place_cases given first_of
returns-then-is_empty c =
    rw (← common-passed c.args.s c.args.frame.now _ c.in_ok-admit.ensures)
    (elim c.then-is_empty.branch [
      | then-is_empty-via-then-is_empty w ↦ rw (← w.if-is_empty.ensures)
      | then-is_empty-via-else-is_empty+then-bundle-gt-BUNDLE_MAX w ↦ rw (← w.if-is_empty.ensures, lt-ltb _ _ w.if-bundle-gt-BUNDLE_MAX.true)
    ])

pub returns-then-bundle-s : goal.returns-then-bundle-s
unfolding place_cases given first_of
returns-then-bundle-s c =
    rw (← common-passed c.args.s c.args.frame.now _ c.in_ok-admit.ensures, ← c.if-is_empty.ensures, le-ltb _ _ c.if-bundle-gt-BUNDLE_MAX.false, c.if-s.true, ne_eqb _ _ c.if-bundle-s.true)

pub returns : goal.returns
unfolding place_cases given first_of
returns c =
    rw (← common-passed c.args.s c.args.frame.now _ c.in_ok-admit.ensures, ← c.if-is_empty.ensures, le-ltb _ _ c.if-bundle-gt-BUNDLE_MAX.false)
    (elim c.else-s.branch [
      | else-s-via-then-s+else-bundle-s w ↦ rw (w.if-s.true, eq-eqb _ _ w.if-bundle-s.false)
      | else-s-via-else-s w ↦ rw w.if-s.false
    ])
