-- Distinct indexes below 64 by a table of those seen: `apart` is what the loop of `distinct` computes.
use mathlib.Core.Path.{◌≡◌, refl, sym, ◌∙◌}
use mathlib.Core.Bool.{Bool, true, false, not, ◌&&◌, ◌||◌, and-true, and-false, and_comm}
use mathlib.Core.List.{List, [], ◌∷◌}
use mathlib.Core.Logic.{◌⊎◌, inl, inr}
use Prim.Native.Nat.{ℕ, zero, suc, ◌+◌, ◌≤◌, ◌<◌}
use native.Mathlib.Omega.{arith}
use lib.ListN.{length, get_or, set, drop, replicate, length-set, length-replicate, drop_of_length-le}
use lib.Seq.{drop-cons, get_or-set_same, get_or-set_other}
use native.Mathlib.Numerals.{add-one}
use lib.Dec.{ltb, eqb}
use borrow.Author.Tests.{eqb-true, eqb-false, lt-ltb, le-ltb, ltb-false}
use Rattle.octets.proofs.Flags.{bool}
use Rattle.pieces.specs.Pieces.{has, has_above, distinct, low_and_distinct}

unfoldable pub apart : List Bool → List ℕ → Bool
apart seen [] = true
apart seen (x ∷ xs) = not (ltb 63 x) && (not (get_or seen x false) && apart (set seen x true) xs)

-- none of the indexes is seen
unfoldable clear : List Bool → List ℕ → Bool
clear seen [] = true
clear seen (x ∷ xs) = not (get_or seen x false) && clear seen xs

swap : (a b c : Bool) → (a && (b && c)) ≡ (b && (a && c))
swap true b c = refl
swap false true c = refl
swap false false c = refl

clear_set : (x : ℕ) (seen : List Bool) (xs : List ℕ) → x < length seen → clear (set seen x true) xs ≡ (not (has x xs) && clear seen xs)
unfolding clear has
clear_set x seen [] h = refl
clear_set x seen (y ∷ ys) h = go (clear_set x seen ys h) (bool (eqb y x))
  where
    go : clear (set seen x true) ys ≡ (not (has x ys) && clear seen ys) → (eqb y x ≡ true) ⊎ (eqb y x ≡ false)
        → (not (get_or (set seen x true) y false) && clear (set seen x true) ys) ≡ (not (eqb y x || has x ys) && (not (get_or seen y false) && clear seen ys))
    go ih (inl e) = let q : y ≡ x = eqb-true y x e in rw (e, q, get_or-set_same seen x true false h)
    go ih (inr e) = rw (e, get_or-set_other seen x y true false (eqb-false y x e), ih) (swap (not (get_or seen y false)) (not (has x ys)) (clear seen ys))

shuffle : (low free lows apart₁ new rest : Bool) → (low && (free && (lows && (apart₁ && (new && rest))))) ≡ ((low && lows) && ((new && apart₁) && (free && rest)))
shuffle false free lows apart₁ new rest = refl
shuffle true true true true true rest = refl
shuffle true true true true false rest = refl
shuffle true true true false true rest = refl
shuffle true true true false false rest = refl
shuffle true true false apart₁ new rest = refl
shuffle true false false apart₁ new rest = refl
shuffle true false true true true rest = refl
shuffle true false true true false rest = refl
shuffle true false true false true rest = refl
shuffle true false true false false rest = refl

not-or : (a b : Bool) → not (a || b) ≡ (not a && not b)
not-or true b = refl
not-or false b = refl

apart-is : (seen : List Bool) (xs : List ℕ) → length seen ≡ 64 → apart seen xs ≡ (not (has_above 63 xs) && (distinct xs && clear seen xs))
unfolding apart has_above distinct clear has
apart-is seen [] l = refl
apart-is seen (x ∷ xs) l = go (apart-is (set seen x true) xs (length-set seen x true ∙ l)) (bool (ltb 63 x))
  where
    go : apart (set seen x true) xs ≡ (not (has_above 63 xs) && (distinct xs && clear (set seen x true) xs)) → (ltb 63 x ≡ true) ⊎ (ltb 63 x ≡ false)
        → (not (ltb 63 x) && (not (get_or seen x false) && apart (set seen x true) xs)) ≡ (not (ltb 63 x || has_above 63 xs) && ((not (has x xs) && distinct xs) && (not (get_or seen x false) && clear seen xs)))
    go ih (inl e) = rw e
    go ih (inr e) =
        let low : x ≤ 63 = ltb-false 63 x e in
        rw (ih, clear_set x seen xs (omega arith), not-or (ltb 63 x) (has_above 63 xs))
        (shuffle (not (ltb 63 x)) (not (get_or seen x false)) (not (has_above 63 xs)) (distinct xs) (not (has x xs)) (clear seen xs))

get_or-none : (n x : ℕ) → get_or (replicate n false) x false ≡ false
get_or-none zero x = refl
get_or-none (suc n) zero = refl
get_or-none (suc n) (suc x) = get_or-none n x

clear_none : (n : ℕ) (xs : List ℕ) → clear (replicate n false) xs ≡ true
unfolding clear
clear_none n [] = refl
clear_none n (x ∷ xs) = rw (get_or-none n x, clear_none n xs)

pub apart_none : (xs : List ℕ) → low_and_distinct xs ≡ apart (replicate 64 false) xs
unfolding low_and_distinct
apart_none xs = sym (apart-is (replicate 64 false) xs (length-replicate 64 false) ∙ rw (clear_none 64 xs, and-true (distinct xs)) (and_comm (not (has_above 63 xs)) (distinct xs)))

-- a turn of the loop, and its ends: `twice` says whether an index passed had been seen
one_more : (twice seen later : Bool) → (not twice && (not seen && later)) ≡ (not (twice || seen) && later)
one_more true seen later = refl
one_more false seen later = refl

module _ (all twice : Bool) (seen : List Bool) (k : ℕ) (xs : List ℕ) (e : all ≡ (not twice && apart seen (drop k xs))) where
  pub apart-high : k < length xs → 63 < get_or xs k 0 → false ≡ all
  unfolding apart
  apart-high h g = sym (e ∙ rw (drop-cons xs k 0 h, lt-ltb 63 (get_or xs k 0) g) (and-false (not twice)))

  pub apart-turn : k < length xs → get_or xs k 0 ≤ 63 → all ≡ (not (twice || get_or seen (get_or xs k 0) false) && apart (set seen (get_or xs k 0) true) (drop (k + 1) xs))
  unfolding apart
  apart-turn h g = e ∙ rw (add-one, drop-cons xs k 0 h, le-ltb 63 (get_or xs k 0) g) (one_more twice (get_or seen (get_or xs k 0) false) (apart (set seen (get_or xs k 0) true) (drop (suc k) xs)))

  pub apart-end : length xs ≤ k → not twice ≡ all
  unfolding apart
  apart-end h = sym (e ∙ rw (drop_of_length-le xs {i = k} h) (and-true (not twice)))
