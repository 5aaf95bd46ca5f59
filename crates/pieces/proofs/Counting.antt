-- Indexes that are held and indexes that are lacking: how high, and how many.
use mathlib.Core.Path.{◌≡◌, refl}
use mathlib.Core.Bool.{true, false, cond, not, false≢true}
use mathlib.Core.List.{List, [], ◌∷◌}
use mathlib.Core.Logic.{◌⊎◌, inl, inr}
use Prim.Native.Nat.{ℕ, zero, suc, ◌+◌, ◌≤◌, ◌<◌}
use native.Mathlib.Omega.{arith}
use lib.ListN.{length}
use lib.Dec.{eqb, ltb}
use borrow.Author.Tests.{eqb-true, eqb-false, eq-eqb, ne_eqb, ltb-false, not-true}
use Rattle.octets.proofs.Flags.{bool, both, or_cases, or_left, or_right, neither, cond_elim}
use Rattle.pieces.specs.Pieces.{has, has_above, has_all, distinct, low_and_distinct}

pub above-has : (n j : ℕ) (is : List ℕ) → has_above n is ≡ false → has j is ≡ true → j ≤ n
unfolding has_above has
above-has n j [] h e = absurd (false≢true e)
above-has n j (x ∷ is) h e = go (above-has n j is (neither (ltb n x) (has_above n is) h).1) (or_cases (eqb x j) (has j is) e)
  where
    go : (has j is ≡ true → j ≤ n) → (eqb x j ≡ true) ⊎ (has j is ≡ true) → j ≤ n
    go ih (inl q) = omega (arith, eqb-true x j q, ltb-false n x (neither (ltb n x) (has_above n is) h).0)
    go ih (inr q) = ih q

-- how many of the indexes below n are lacking
unfoldable pub lack : ℕ → List ℕ → ℕ
lack zero is = 0
lack (suc n) is = cond (has n is) 0 1 + lack n is

lack_below : (m i : ℕ) (is : List ℕ) → m ≤ i → lack m is ≡ lack m (i ∷ is)
unfolding lack has
lack_below zero i is le = refl
lack_below (suc m) i is le = let z : eqb i m ≡ false = ne_eqb i m (omega arith) in rw (z, lack_below m i is (omega arith))

pub lack_cons : (n i : ℕ) (is : List ℕ) → has i is ≡ false → i < n → lack n is ≡ 1 + lack n (i ∷ is)
unfolding lack has
lack_cons zero i is h i< = absurd (omega arith)
lack_cons (suc n) i is h i< = go (lack_cons n i is h) (bool (eqb i n))
  where
    go : (i < n → lack n is ≡ 1 + lack n (i ∷ is)) → (eqb i n ≡ true) ⊎ (eqb i n ≡ false) → lack (suc n) is ≡ 1 + lack (suc n) (i ∷ is)
    go ih (inl e) =
        let q : i ≡ n = eqb-true i n e in
        let h' : has n is ≡ false = rw (← q) h in
        rw (e, h') (omega (arith, lack_below n i is (omega arith)))
    go ih (inr e) = let ne : i ≡ n → ⊥ = eqb-false i n e in rw e (omega (arith, ih (omega arith)))

lack_nil : (n : ℕ) → lack n [] ≡ n
unfolding lack has
lack_nil zero = refl
lack_nil (suc n) = omega (arith, lack_nil n)

pub held-and_lacking : (n : ℕ) (is : List ℕ) → distinct is ≡ true → ((j : ℕ) → has j is ≡ true → j < n) → length is + lack n is ≡ n
unfolding distinct has
held-and_lacking n [] d b = omega (arith, lack_nil n)
held-and_lacking n (i ∷ is) d b =
    let p = both (not (has i is)) (distinct is) d in
    let less = held-and_lacking n is p.1 (λ j h. b j (or_right (eqb i j) (has j is) h)) in
    let i< : i < n = b i (or_left (eqb i i) (has i is) (eq-eqb i i refl)) in
    omega (arith, less, lack_cons n i is (not-true (has i is) p.0) i<)

lack_less : (n i : ℕ) (is : List ℕ) → lack n is ≤ 1 + lack n (i ∷ is)
unfolding lack has
lack_less zero i is = omega arith
lack_less (suc n) i is = go (lack_less n i is) (bool (eqb i n))
  where
    go : lack n is ≤ 1 + lack n (i ∷ is) → (eqb i n ≡ true) ⊎ (eqb i n ≡ false) → lack (suc n) is ≤ 1 + lack (suc n) (i ∷ is)
    go ih (inl e) =
        let one = cond_elim (λ (k : ℕ). k ≤ 1) (has n is) {x = 0} {y = 1} (λ h. omega arith) (λ h. omega arith) in
        rw e (omega (arith, one, lack_below n i is (omega (arith, eqb-true i n e))))
    go ih (inr e) = rw e (omega (arith, ih))

lack_length : (n : ℕ) (is : List ℕ) → n ≤ length is + lack n is
lack_length n [] = omega (arith, lack_nil n)
lack_length n (i ∷ is) = omega (arith, lack_less n i is, lack_length n is)

lack_none : (n : ℕ) (is : List ℕ) → has_all n is ≡ true → lack n is ≡ 0
unfolding lack has_all
lack_none zero is h = refl
lack_none (suc n) is h = let p = both (has n is) (has_all n is) h in rw p.0 (omega (arith, lack_none n is p.1))

pub all-count : (n : ℕ) (is : List ℕ) → has_all n is ≡ true → n ≤ length is
all-count n is h = omega (arith, lack_length n is, lack_none n is h)

pub low-distinct : (is : List ℕ) → low_and_distinct is ≡ true → (distinct is ≡ true) × (has_above 63 is ≡ false)
unfolding low_and_distinct
low-distinct is e = let p = both (distinct is) (not (has_above 63 is)) e in (p.0, not-true (has_above 63 is) p.1)
