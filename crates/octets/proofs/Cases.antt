-- Tables of refusals: each number, and whether its case holds.
use mathlib.Core.Path.{◌≡◌, refl}
use mathlib.Core.Bool.{Bool, true, false, cond, ◌&&◌}
use mathlib.Core.List.{List, [], ◌∷◌, ◌++◌}
use Prim.Native.Nat.{ℕ, ◌<◌}
use native.Mathlib.Omega.{arith}
use lib.Dec.{ltb}
use borrow.Author.Tests.{ltb-true}
use Rattle.octets.proofs.Flags.{both}

-- the first number whose case holds, 0 for none
unfoldable pub first : List (ℕ × Bool) → ℕ
first [] = 0
first (x ∷ xs) = cond x.1 x.0 (first xs)

-- a table behind a table: the first one decides, if a case of it holds
pub first_some : (xs ys : List (ℕ × Bool)) → 0 < first xs → first (xs ++ ys) ≡ first xs
unfolding first
first_some [] ys h = absurd (omega arith)
first_some ((n, true) ∷ xs) ys h = refl
first_some ((n, false) ∷ xs) ys h = first_some xs ys h

-- no case has the number 0
unfoldable pub numbered : List (ℕ × Bool) → Bool
numbered [] = true
numbered (x ∷ xs) = ltb 0 x.0 && numbered xs

pub first-none : (xs ys : List (ℕ × Bool)) → numbered xs ≡ true → first xs ≡ 0 → first (xs ++ ys) ≡ first ys
unfolding first numbered
first-none [] ys p e = refl
first-none ((n, true) ∷ xs) ys p e = absurd (omega (arith, ltb-true 0 n (both (ltb 0 n) (numbered xs) p).0))
first-none ((n, false) ∷ xs) ys p e = first-none xs ys (both (ltb 0 n) (numbered xs) p).1 e
