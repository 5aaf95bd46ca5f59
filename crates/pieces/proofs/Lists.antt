-- Searches over the entries of an array, those that a loop has passed or has yet to look at.
use mathlib.Core.Path.{◌≡◌, refl}
use mathlib.Core.Bool.{true, false, ◌&&◌, ◌||◌, and-false, or-false}
use mathlib.Core.List.{List, [], ◌∷◌}
use mathlib.Core.Logic.{◌⊎◌, inl, inr}
use Prim.Native.Nat.{ℕ, zero, suc, ◌+◌, ◌≤◌, ◌<◌}
use native.Mathlib.Numerals.{add-one}
use native.Mathlib.Nat.{eq-or-lt_of_le}
use native.Mathlib.Omega.{arith}
use lib.ListN.{length, take, drop, get_or}
use lib.Seq.{drop-cons, take-suc}
use lib.Dec.{ltb, eqb}
use borrow.Author.Tests.{eqb-true, eqb-false, eq-eqb, ne_eqb}
use Rattle.octets.specs.Octets.{sum_of}
use Rattle.octets.proofs.Flags.{bool}
use Rattle.pieces.proofs.Appending.{has-append, above-append}
use Rattle.pieces.specs.Pieces.{has, has_above, has_all, is_zeros}

-- ---- one index

module _ (i k : ℕ) (xs : List ℕ) (h : k < length xs) where
  -- among the entries up to one more
  pub has-next : (has i (take k xs) || eqb (get_or xs k 0) i) ≡ has i (take (k + 1) xs)
  unfolding has
  has-next = rw (add-one, take-suc xs k 0 h, has-append i (take k xs) (get_or xs k 0 ∷ []), or-false (eqb (get_or xs k 0) i))

  pub above-next : (has_above i (take k xs) || ltb i (get_or xs k 0)) ≡ has_above i (take (k + 1) xs)
  unfolding has_above
  above-next = rw (add-one, take-suc xs k 0 h, above-append i (take k xs) (get_or xs k 0 ∷ []), or-false (ltb i (get_or xs k 0)))

  -- among the entries left, at one and past another one
  pub has_here : get_or xs k 0 ≡ i → has i (drop k xs) ≡ true
  unfolding has
  has_here e = rw (drop-cons xs k 0 h, eq-eqb (get_or xs k 0) i e)

  pub has_there : (get_or xs k 0 ≡ i → ⊥) → has i (drop k xs) ≡ has i (drop (k + 1) xs)
  unfolding has
  has_there e = rw (add-one, drop-cons xs k 0 h, ne_eqb (get_or xs k 0) i e)

-- ---- every index below a number

pub all-turn : (i : ℕ) (is : List ℕ) → has i is ≡ true → has_all i is ≡ true → has_all (i + 1) is ≡ true
unfolding has_all
all-turn i is h a = rw (add-one, h, a)

pub all_lacks : (n i : ℕ) (is : List ℕ) → i < n → has i is ≡ false → has_all n is ≡ false
unfolding has_all
all_lacks zero i is h e = absurd (omega arith)
all_lacks (suc n) i is h e = go (λ q. all_lacks n i is q e) (let h' : i ≤ n = omega arith in eq-or-lt_of_le h')
  where
    go : (i < n → has_all n is ≡ false) → (i ≡ n) ⊎ (i < n) → (has n is && has_all n is) ≡ false
    go below (inl q) = let z : has n is ≡ false = rw (← q) e in rw z
    go below (inr q) = rw (below q) (and-false (has n is))

-- ---- zero entries

pub both-zero : (x s : ℕ) → (eqb x 0 && eqb s 0) ≡ eqb (x + s) 0
both-zero x s = go (bool (eqb x 0)) (bool (eqb s 0))
  where
    go : (eqb x 0 ≡ true) ⊎ (eqb x 0 ≡ false) → (eqb s 0 ≡ true) ⊎ (eqb s 0 ≡ false) → (eqb x 0 && eqb s 0) ≡ eqb (x + s) 0
    go (inl p) (inl q) = let u = eqb-true x 0 p in let v = eqb-true s 0 q in rw (p, q, eq-eqb (x + s) 0 (omega arith))
    go (inl p) (inr q) = let v = eqb-false s 0 q in rw (p, q, ne_eqb (x + s) 0 (λ e. v (omega arith)))
    go (inr p) q = let u = eqb-false x 0 p in rw (p, ne_eqb (x + s) 0 (λ e. u (omega arith)))

pub zeros-sum : (xs : List ℕ) → is_zeros xs ≡ eqb (sum_of xs) 0
unfolding is_zeros sum_of
zeros-sum [] = refl
zeros-sum (x ∷ xs) = rw (zeros-sum xs) (both-zero x (sum_of xs))

-- ---- the entries that an iterator has left

pub taken : (k : ℕ) (xs : List ℕ) (x : ℕ) (left : List ℕ) → x ∷ left ≡ drop k xs → (k < length xs) × ((x ≡ get_or xs k 0) × (left ≡ drop (k + 1) xs))
taken zero [] x left e = absurd (cc)
taken zero (y ∷ ys) x left e = (omega arith, (cc, cc))
taken (suc k) [] x left e = absurd (cc)
taken (suc k) (y ∷ ys) x left e = let t = taken k ys x left e in (omega arith, (t.1.0, rw add-one (rw add-one at t.1.1)))
