-- Numbers up to w behind the next number, and their rows.
use mathlib.Core.Path.{◌≡◌, sym, ◌∙◌}
use mathlib.Core.Bool.{true, false}
use mathlib.Core.Logic.{◌⊎◌, inl, inr}
use Prim.Native.Nat.{ℕ, ◌+◌, ◌-◌, ◌%◌, ◌^◌, ◌≤◌, ◌<◌}
use native.Mathlib.Omega.{arith}
use lib.Dec.{eqb, leb}
use borrow.Author.Tests.{eqb-true, eqb-false, leb-true, leb-false}
use Rattle.octets.proofs.Flags.{bool}
use Rattle.window.specs.Window.{Window, four, eight, sixteen, distance, row_of}

pub record Behind (w k t : ℕ) : Type 0 where
  pub number : t < 2 ^ 32
  pub some : 1 ≤ distance t k
  pub most : distance t k ≤ w

-- how far the number after k is ahead of t
pub further : (w t k : ℕ) → w ≤ 16 → t < 2 ^ 32 → k < 2 ^ 32 → distance t k < w → distance t ((k + 1) % 2 ^ 32) ≡ distance t k + 1
further w t k small t< k< h = omega arith

pub one_further : (k : ℕ) → k < 2 ^ 32 → distance k ((k + 1) % 2 ^ 32) ≡ 1
one_further k k< = omega arith

same_row : (w : ℕ) → Window w → (x y d e : ℕ) → 1 ≤ d → d ≤ w → 1 ≤ e → e ≤ w → x + d ≡ y + e → x % w ≡ y % w → x ≡ y
same_row _ four x y d e a b c f h q = omega arith
same_row _ eight x y d e a b c f h q = omega arith
same_row _ sixteen x y d e a b c f h q = omega arith

round-row : (w : ℕ) → Window w → (x : ℕ) → (x + 2 ^ 32) % w ≡ x % w
round-row _ four x = omega arith
round-row _ eight x = omega arith
round-row _ sixteen x = omega arith

pub rows_apart : (w : ℕ) → Window w → (k t u : ℕ) → k < 2 ^ 32 → Behind w k t → Behind w k u → (u ≡ t → ⊥) → row_of w u ≡ row_of w t → ⊥
rows_apart w win k t u k< T U ne e = go (reaches t T.number) (reaches u U.number)
  where
    reaches : (x : ℕ) → x < 2 ^ 32 → (x + distance x k ≡ k) ⊎ (x + distance x k ≡ k + 2 ^ 32)
    reaches x x< = by_order (bool (leb x k))
      where
        by_order : (leb x k ≡ true) ⊎ (leb x k ≡ false) → (x + distance x k ≡ k) ⊎ (x + distance x k ≡ k + 2 ^ 32)
        by_order (inl p) = let h = leb-true x k p in inl (omega arith)
        by_order (inr p) = let h = leb-false x k p in inr (omega arith)

    one : (x y : ℕ) → x + distance u k ≡ y + distance t k → x % w ≡ y % w → x ≡ y
    one x y = same_row w win x y (distance u k) (distance t k) U.some U.most T.some T.most

    go : (t + distance t k ≡ k) ⊎ (t + distance t k ≡ k + 2 ^ 32) → (u + distance u k ≡ k) ⊎ (u + distance u k ≡ k + 2 ^ 32) → ⊥
    go (inl p) (inl q) = ne (one u t (q ∙ sym p) e)
    go (inl p) (inr q) = let z = one u (t + 2 ^ 32) (omega arith) (e ∙ sym (round-row w win t)) in omega (arith, U.number)
    go (inr p) (inl q) = let z = one (u + 2 ^ 32) t (omega arith) (round-row w win u ∙ e) in omega (arith, T.number)
    go (inr p) (inr q) = ne (one u t (q ∙ sym p) e)

pub not-next : (w k t : ℕ) → Behind w k t → t ≡ k → ⊥
not-next w k t T e = omega (arith, T.number, T.some)

-- g is the number before k
pub next-distance : (g k : ℕ) → g < 2 ^ 32 → (g + 1) % 2 ^ 32 ≡ k → distance g k ≡ 1
next-distance g k g< e = omega arith

pub behind_distance : (w g k t : ℕ) → w ≤ 16 → g < 2 ^ 32 → (g + 1) % 2 ^ 32 ≡ k → Behind w k t → (distance g t ≡ 0) ⊎ (2 ^ 32 - w < distance g t)
behind_distance w g k t small g< e T = go (bool (eqb (distance t k) 1))
  where
    go : (eqb (distance t k) 1 ≡ true) ⊎ (eqb (distance t k) 1 ≡ false) → (distance g t ≡ 0) ⊎ (2 ^ 32 - w < distance g t)
    go (inl q) = let z = eqb-true (distance t k) 1 q in inl (omega arith)
    go (inr q) = let z = eqb-false (distance t k) 1 q in inr (omega arith)
