-- `wire::zeros` meets its contract.
use mathlib.Core.List.{[]}
use mathlib.Core.Path.{◌≡◌, refl, sym, ◌∙◌}
use Rattle.std.proofs.Common.{rules, tests}
use Rattle.std.proofs.lemmas.Iterator.{YieldsList-from_slice, IsFirst-from_position, index_from_first}
use Rattle.wire.specs.Layout.{zeros}
use Rattle.wire.proofs.Runs.{zeros-zero, zeros-other}
use Rattle.wire.proofs.zeros.Goals as goal

empty : zeros [] ≡ 0
unfolding zeros
empty = refl

pub returns : goal.returns
returns c =
    let first = IsFirst-from_position _ _ c.position.result (λ x. x ≡ 0 → ⊥) (λ x. x ≡ 0) c.position.ensures.ran (YieldsList-from_slice c.args.s.now cc) (λ x q k. search (rules, tests)) (λ x q k. search (rules, tests)) in
    c.unwrap_or.ensures ∙ sym (index_from_first zeros (λ x. x ≡ 0 → ⊥) (λ x. x ≡ 0) empty (λ x xs h. zeros-other x xs h) (λ x xs h. zeros-zero x xs h) c.args.s.now c.position.result first)
