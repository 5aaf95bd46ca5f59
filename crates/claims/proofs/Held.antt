-- Indexes held, with one more, and the weight of those that are lacking.
use mathlib.Core.Path.{◌≡◌, refl, ◌∙◌}
use mathlib.Core.Bool.{true, false, cond, ◌||◌, or-false}
use mathlib.Core.Logic.{◌⊎◌, inl, inr}
use mathlib.Core.List.{List, [], ◌∷◌, ◌++◌}
use Prim.Native.Nat.{ℕ, zero, suc, ◌+◌, ◌≤◌, ◌<◌}
use native.Mathlib.Omega.{arith}
use lib.Dec.{eqb}
use borrow.Author.Tests.{eqb-true, eqb-false, ne_eqb}
use Rattle.octets.proofs.Flags.{bool, both, or_cases}
use Rattle.pieces.specs.Pieces.{has, has_all}
use Rattle.pieces.proofs.Appending.{has-append}

pub has-snoc : (i j : ℕ) (is : List ℕ) → has i (is ++ j ∷ []) ≡ (has i is || eqb j i)
unfolding has
has-snoc i j is = has-append i is (j ∷ []) ∙ rw (or-false (eqb j i))

-- what holds of the indexes held and of the new one
pub has_either : (P : ℕ → Type 0) (i : ℕ) (is : List ℕ) → ((j : ℕ) → has j is ≡ true → P j) → P i → (j : ℕ) → has j (is ++ i ∷ []) ≡ true → P j
has_either P i is old new j h = go (or_cases (has j is) (eqb i j) (rw (has-snoc j i is) at h))
  where
    go : (has j is ≡ true) ⊎ (eqb i j ≡ true) → P j
    go (inl p) = old j p
    go (inr p) = rw (eqb-true i j p) at new

pub all-has : (n : ℕ) (is : List ℕ) → has_all n is ≡ true → (j : ℕ) → j < n → has j is ≡ true
unfolding has_all
all-has zero is e j h = absurd (omega arith)
all-has (suc n) is e j h = go (all-has n is (both (has n is) (has_all n is) e).1 j) (bool (eqb j n))
  where
    go : (j < n → has j is ≡ true) → (eqb j n ≡ true) ⊎ (eqb j n ≡ false) → has j is ≡ true
    go ih (inl q) = rw (eqb-true j n q) (both (has n is) (has_all n is) e).0
    go ih (inr q) = let ne = eqb-false j n q in ih (omega arith)

pub has_all_lem : (n : ℕ) (is : List ℕ) → ((j : ℕ) → j < n → has j is ≡ true) → has_all n is ≡ true
unfolding has_all
has_all_lem zero is h = refl
has_all_lem (suc n) is h = rw (h n (omega arith), has_all_lem n is (λ j l. h j (omega arith)))

-- the weight of the indexes below n that are not held
unfoldable pub lack : (ℕ → ℕ) → ℕ → List ℕ → ℕ
lack size zero is = 0
lack size (suc n) is = cond (has n is) 0 (size n) + lack size n is

module _ (size : ℕ → ℕ) (i : ℕ) (is : List ℕ) (new : has i is ≡ false) where
  has_other : (n : ℕ) → (i ≡ n → ⊥) → has n (is ++ i ∷ []) ≡ has n is
  has_other n ne = has-snoc n i is ∙ rw (ne_eqb i n ne) (or-false (has n is))

  lack_other : (n : ℕ) → n ≤ i → lack size n is ≡ lack size n (is ++ i ∷ [])
  unfolding lack
  lack_other zero h = refl
  lack_other (suc n) h = rw (has_other n (omega arith), lack_other n (omega arith))

  pub lack-add : (n : ℕ) → i < n → lack size n is ≡ size i + lack size n (is ++ i ∷ [])
  unfolding lack
  lack-add zero h = absurd (omega arith)
  lack-add (suc n) h = go (lack-add n) (bool (eqb i n))
    where
      go : (i < n → lack size n is ≡ size i + lack size n (is ++ i ∷ [])) → (eqb i n ≡ true) ⊎ (eqb i n ≡ false) → lack size (suc n) is ≡ size i + lack size (suc n) (is ++ i ∷ [])
      go ih (inl e) =
          let q : i ≡ n = eqb-true i n e in
          let old : has n is ≡ false = rw (← q) new in
          let now : has n (is ++ i ∷ []) ≡ true = has-snoc n i is ∙ rw (e, old) in
          rw (old, now, lack_other n (omega arith), q) (omega arith)
      go ih (inr e) = let ne = eqb-false i n e in rw (has_other n ne) (omega (arith, ih (omega arith)))
