-- `sender::place` meets its contract.
use Rattle.std.proofs.Common.{◌≡◌, ◌∙◌, ◌≤◌, length, arith, eqb-true, ltb-false}
use Rattle.std.proofs.lemmas.Bool.{eqb-false, not-false}
use Rattle.std.proofs.lemmas.Result.{err_from_is_err_and}
use Rattle.octets.proofs.Flags.{neither}
use Rattle.framing.specs.Placing.{bundle_max}
use Rattle.framing.specs.Answers.{reply}
use Rattle.sender.specs.Answers.{given}
use Rattle.sender.specs.Calls.{place_cases, place}
use Rattle.sender.proofs.Ways.{Passed, place-passes, unless-passed, unless-given, some_number}
use Rattle.sender.proofs.Facts.{in-range, lies_within}
use Rattle.sender.proofs.place.Goals as goal

pub returns-in_err-admit_bundle : goal.returns-in_err-admit_bundle
unfolding place reply given
returns-in_err-admit_bundle c =
    let s = c.args.s.now in
    let d = c.args.frame.now in
    let p = err_from_is_err_and c.from_residual.result c.from_residual.ensures.1 in
    rw (p.1, p.2) (unless-given s d _ (place_cases s c.args.bundle.now d) _ (some_number c.in_err-admit_bundle.field-0.0) c.in_err-admit_bundle.ensures)

pub placing-requires-clause-fill_lt_size : goal.placing-requires-clause-fill_lt_size
unfolding Passed place_cases given
placing-requires-clause-fill_lt_size c =
    let s = c.args.s.now in
    let p = place-passes s c.args.bundle.now c.args.frame.now c.in_ok-admit_bundle.ensures in
    let f = in-range s (not-false _ p.0) in
    let same = eqb-true _ _ (not-false _ p.1.0) in
    omega arith

pub placing-requires-clause-placed_in_bounds : goal.placing-requires-clause-placed_in_bounds
unfolding Passed place_cases given
placing-requires-clause-placed_in_bounds c =
    let s = c.args.s.now in
    let b = c.args.bundle.now in
    let p = place-passes s b c.args.frame.now c.in_ok-admit_bundle.ensures in
    let (z, h) = neither _ _ p.1.1.0 in
    let o : length b ≡ 0 → ⊥ = eqb-false _ _ z in
    let m : length b ≤ bundle_max = ltb-false _ _ h in
    let g = lies_within s (not-false _ p.0) (length b) (omega arith) p.1.1.1.0 in
    omega arith

pub returns : goal.returns
unfolding place given
returns c =
    let s = c.args.s.now in
    let d = c.args.frame.now in
    c.placing.ensures ∙ unless-passed s d _ _ (place-passes s c.args.bundle.now d c.in_ok-admit_bundle.ensures)
