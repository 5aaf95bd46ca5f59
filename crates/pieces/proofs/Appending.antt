-- Lists with more entries behind, or with one.
use mathlib.Core.Path.{◌≡◌, refl, sym}
use mathlib.Core.Bool.{true, false, not, ◌||◌, or_assoc}
use mathlib.Core.List.{List, [], ◌∷◌, ◌++◌}
use Prim.Native.Nat.{ℕ, zero, suc, ◌+◌, ◌≤◌, ◌<◌}
use native.Mathlib.Numerals.{add-one}
use native.Mathlib.Omega.{arith}
use lib.ListN.{length, get_or, take, drop, set}
use lib.Seq.{take-suc, drop-set-lt}
use lib.Dec.{eqb, ltb}
use borrow.Author.Tests.{eqb-false, eq-eqb, ne_eqb, le-ltb, not-true}
use Rattle.octets.proofs.Flags.{both, or_right, neither}
use Rattle.octets.specs.Octets.{sum_of}
use Rattle.pieces.specs.Pieces.{has, has_above, distinct, is_zeros}

pub sum-snoc : (n : ℕ) (ls : List ℕ) → sum_of (ls ++ n ∷ []) ≡ sum_of ls + n
unfolding sum_of
sum-snoc n [] = omega arith
sum-snoc n (l ∷ ls) = omega (arith, sum-snoc n ls)

pub sum-next : (k : ℕ) (ls : List ℕ) → k < length ls → sum_of (take (k + 1) ls) ≡ sum_of (take k ls) + get_or ls k 0
sum-next k ls h = rw (add-one, take-suc ls k 0 h) (sum-snoc (get_or ls k 0) (take k ls))

pub sum-take : (k : ℕ) (ls : List ℕ) → sum_of (take k ls) ≤ sum_of ls
unfolding sum_of
sum-take zero ls = omega arith
sum-take (suc k) [] = omega arith
sum-take (suc k) (l ∷ ls) = omega (arith, sum-take k ls)

pub has-append : (i : ℕ) (is js : List ℕ) → has i (is ++ js) ≡ (has i is || has i js)
unfolding has
has-append i [] js = refl
has-append i (x ∷ is) js = rw (has-append i is js) (sym (or_assoc (eqb x i) (has i is) (has i js)))

pub above-append : (i : ℕ) (is js : List ℕ) → has_above i (is ++ js) ≡ (has_above i is || has_above i js)
unfolding has_above
above-append i [] js = refl
above-append i (x ∷ is) js = rw (above-append i is js) (sym (or_assoc (ltb i x) (has_above i is) (has_above i js)))

pub has_last : (i : ℕ) (is : List ℕ) → has i (is ++ i ∷ []) ≡ true
unfolding has
has_last i is = rw (has-append i is (i ∷ []), eq-eqb i i refl) (or_right (has i is) true refl)

pub has_more : (i j : ℕ) (is : List ℕ) → has i is ≡ true → has i (is ++ j ∷ []) ≡ true
has_more i j is h = rw (has-append i is (j ∷ []), h)

pub above-snoc : (i j : ℕ) (is : List ℕ) → has_above i is ≡ false → j ≤ i → has_above i (is ++ j ∷ []) ≡ false
unfolding has_above
above-snoc i j [] h le = rw (le-ltb i j le)
above-snoc i j (x ∷ is) h le = let p = neither (ltb i x) (has_above i is) h in rw (p.0, above-snoc i j is p.1 le)

pub distinct_snoc : (i : ℕ) (is : List ℕ) → distinct is ≡ true → has i is ≡ false → distinct (is ++ i ∷ []) ≡ true
unfolding distinct has
distinct_snoc i [] d h = refl
distinct_snoc i (x ∷ is) d h =
    let p = both (not (has x is)) (distinct is) d in
    let q = neither (eqb x i) (has i is) h in
    let apart : x ≡ i → ⊥ = eqb-false x i q.0 in
    let e : has x (is ++ i ∷ []) ≡ false = rw (has-append x is (i ∷ []), not-true (has x is) p.0, ne_eqb i x (λ z. apart (sym z))) in
    rw (e, distinct_snoc i is p.1 q.1)

zeros-tail : (n : ℕ) (xs : List ℕ) → is_zeros (drop n xs) ≡ true → is_zeros (drop (suc n) xs) ≡ true
unfolding is_zeros
zeros-tail zero [] e = refl
zeros-tail zero (x ∷ xs) e = (both (eqb x 0) (is_zeros xs) e).1
zeros-tail (suc n) [] e = refl
zeros-tail (suc n) (x ∷ xs) e = zeros-tail n xs e

pub zeros-after : (n : ℕ) (xs : List ℕ) (x : ℕ) → is_zeros (drop n xs) ≡ true → is_zeros (drop (n + 1) (set xs n x)) ≡ true
zeros-after n xs x z = rw (add-one, drop-set-lt (suc n) xs n x (omega arith)) (zeros-tail n xs z)
