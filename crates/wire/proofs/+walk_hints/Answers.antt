-- `wire::walk_hints` meets its contract: each return is a step of the chain, by the tests that led there.
use Prim.Native.Nat.{ℕ, ◌<◌, ◌≤◌, ◌+◌, ◌-◌}
use lib.ListN.{length, get_or, drop, take, length-drop}
use borrow.Author.Tests.{lt-ltb, le-ltb, eq-eqb, ne_eqb}
use mathlib.Core.Path.{◌≡◌, ap, ◌∙◌}
use mathlib.Core.List.{List}
use lib.Seq.{take_all}
use Rattle.wire.specs.Layout.{chain, walked}
use Rattle.wire.proofs.Chains.{step, rest}
use native.Mathlib.Omega.{arith}
use Rattle.wire.proofs.+walk_hints.Goals as goal

pub returns-then-s-lt2 : goal.returns-then-s-lt2
unfolding walked
returns-then-s-lt2 t c = rw step (simp (lt-ltb _ _ c.if-s-lt2.true))

pub returns-then-s-value : goal.returns-then-s-value
unfolding walked
returns-then-s-value t c =
    let s : List ℕ = c.args.s.now in
    let v : length s < 2 + get_or s 1 0 = omega arith in
    rw step (simp (le-ltb _ 2 c.if-s-lt2.false, lt-ltb _ _ v))

pub returns-then-s-eq0 : goal.returns-then-s-eq0
unfolding walked
returns-then-s-eq0 t c =
    let s : List ℕ = c.args.s.now in
    let v : 2 + get_or s 1 0 ≤ length s = omega arith in
    rw step (simp (le-ltb _ 2 c.if-s-lt2.false, le-ltb _ _ v, eq-eqb _ _ c.if-s-eq0.true, length-drop) (omega arith))

pub returns : goal.returns
returns t c =
    let s : List ℕ = c.args.s.now in
    let value : ℕ = get_or s 1 0 in
    let v : 2 + get_or s 1 0 ≤ length s = omega arith in
    let part : take (length s - (2 + value)) (drop (2 + value) s) ≡ rest s =
    take_all (length s - (2 + value)) (drop (2 + value) s) (simp length-drop (omega arith)) in
    rw step (simp (le-ltb _ 2 c.if-s-lt2.false, le-ltb _ _ v, ne_eqb _ _ c.if-s-eq0.false)
    (c.walk_hints.ensures ∙ ap (λ (l : List ℕ). walked (chain (length l) l)) part))
