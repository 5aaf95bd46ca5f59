-- Different variants are never equal, so anything follows.
use mathlib.Core.Path.{◌≡◌}
use mathlib.Core.Bool.{true, false}
use Prim.Native.Nat.{ℕ}
use native.Mathlib.Omega.{arith}
use mathlib.Core.List.{List, [], ◌∷◌}
use Rattle.std.proofs.Common.{Err, None, Ok, Some}
use Rattle.wire.specs.declared.Rejection.TheVariants.{Malformed, Misplaced}
use Rattle.wire.specs.declared.Fault.{Fault}
use Rattle.wire.specs.declared.Span.{Span}
use Rattle.wire.specs.Frame.{Item, broken, row}

module _ {A : Type 0} where
  pub left-overrun : {n : ℕ} → Some n ≡ None → A
  left-overrun e = absurd (let z : ◌≡◌ {A = ℕ} 0 1 = cc in omega arith)

  pub good-bad : {m : Span} {r : Fault} → Ok m ≡ Err r → A
  good-bad e = absurd (let z : ◌≡◌ {A = ℕ} 0 1 = cc in omega arith)

  pub row-broken : {is : List Item} {r : Fault} {p : ℕ} → row is ≡ broken r p → A
  row-broken e = absurd (let z : ◌≡◌ {A = ℕ} 0 1 = cc in omega arith)

  pub accepted-malformed : {r : Fault} {p : ℕ} → Ok (tt {0}) ≡ Err (Malformed r p) → A
  accepted-malformed e = absurd (let z : ◌≡◌ {A = ℕ} 0 1 = cc in omega arith)

  pub accepted-misplaced : (Ok (tt {0})) ≡ Err Misplaced → A
  accepted-misplaced e = absurd (let z : ◌≡◌ {A = ℕ} 0 1 = cc in omega arith)

  pub true-false : true ≡ false → A
  true-false e = absurd (let z : ◌≡◌ {A = ℕ} 0 1 = cc in omega arith)

  pub cons-nil : {i : Item} {is : List Item} → i ∷ is ≡ [] → A
  cons-nil e = absurd (let z : ◌≡◌ {A = ℕ} 0 1 = cc in omega arith)
