use Rattle.std.proofs.Common.{rules, arith, refl, ap, sym, ◌∙◌, length, length-append}
use Rattle.std.proofs.lemmas.List.{nil_from_length}
use Rattle.octets.specs.Octets.{put}
use Rattle.octets.proofs.Put.{put-none, put-put, length-put}
use Rattle.octets.proofs.copy_long.Goals as goal

pub loop-part-init : goal.loop-part-init
loop-part-init c = (search rules, search rules, search rules, search rules)

pub copy_into-requires : goal.copy_into-requires
copy_into-requires c =
    let sum = ap length c.in-Some.ensures.steps.1.0 ∙ length-append c.in-Some.part.now _ in
    omega (arith, sum, c.loop-part.invariant.2)

pub loop-part-preserved : goal.loop-part-preserved
loop-part-preserved c =
    let l = c.loop-part in
    let steps = c.in-Some.ensures.steps in
    let part = c.in-Some.part.now in
    let sum = ap length steps.1.0 ∙ length-append part _ in
    let same = ap length c.copy_into.ensures ∙ length-put l.to l.end part (omega (arith, sum, l.invariant.2)) in (
      rw steps.0 l.invariant.0,
      tt,
      omega (arith, sum, same, l.invariant.2),
      rw c.copy_into.ensures (put-put l.to l.end _ part _ refl (omega (arith, sum, l.invariant.2)) ∙ ap (put l.to l.end) (sym steps.1.0) ∙ l.invariant.3),
    )

pub returns : goal.returns
returns c =
    let l = c.loop-part in
    let none = nil_from_length _ c.in-None.ensures.steps.1.0 in
    sym (put-none l.to l.end) ∙ (rw none at l.invariant.3)
