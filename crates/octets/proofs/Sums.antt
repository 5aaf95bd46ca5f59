-- The sum of numbers, as the library's iterators give it.
use mathlib.Core.Path.{◌≡◌, ◌∙◌}
use mathlib.Core.List.{List, [], ◌∷◌}
use Prim.Native.Nat.{ℕ, ◌+◌}
use native.Mathlib.Nat.{zero-add}
use native.Mathlib.Omega.{arith}
use Rattle.std.specs.Prelude.{fold, sum}
use Rattle.octets.specs.Octets.{sum_of}

fold-sum : (a : ℕ) (xs : List ℕ) → fold (λ a x. a + x) a xs ≡ a + sum_of xs
unfolding sum_of
fold-sum a [] = omega arith
fold-sum a (x ∷ xs) = let e = fold-sum (a + x) xs in omega arith

pub sum_is : (xs : List ℕ) → sum xs ≡ sum_of xs
sum_is xs = fold-sum 0 xs ∙ zero-add (sum_of xs)
