-- The pieces of one transfer (document 01, "One row"): tests over the list of indexes and the list of lengths of the pieces, in order of
-- arrival; only joining looks into the cell where the pieces lie.
use Rattle.std.specs.Prelude.{◌≡◌, Bool, true, false, cond, not, ◌&&◌, ◌||◌, List, [], ◌∷◌, ◌++◌, ℕ, zero, suc, ◌+◌, length, take, drop, ltb, eqb}
use Rattle.octets.specs.Octets.{put}
use Rattle.pieces.specs.declared.Order.{Order}
use Rattle.pieces.specs.declared.Order.TheVariants.{Rising, Falling}

-- the most octets of a bundle, and so of the cell where its pieces lie
abbrev pub bundle_max : ℕ
bundle_max = 4096

-- ---- lists of indexes and of lengths

-- index i is held; an index above i is held
unfoldable pub has : ℕ → List ℕ → Bool
has i [] = false
has i (j ∷ js) = eqb j i || has i js

unfoldable pub has_above : ℕ → List ℕ → Bool
has_above i [] = false
has_above i (j ∷ js) = ltb i j || has_above i js

-- every index below n
unfoldable pub has_all : ℕ → List ℕ → Bool
has_all zero is = true
has_all (suc n) is = has n is && has_all n is

unfoldable pub distinct : List ℕ → Bool
distinct [] = true
distinct (i ∷ is) = not (has i is) && distinct is

unfoldable pub is_zeros : List ℕ → Bool
is_zeros [] = true
is_zeros (x ∷ xs) = eqb x 0 && is_zeros xs

unfoldable pub low_and_distinct : List ℕ → Bool
low_and_distinct is = distinct is && not (has_above 63 is)

-- ---- pieces in a cell

-- where the piece of index i starts, and its length, where the pieces lie one behind the other
unfoldable pub start_of : ℕ → List ℕ → List ℕ → ℕ
start_of i [] ls = 0
start_of i (j ∷ js) [] = 0
start_of i (j ∷ js) (l ∷ ls) = cond (eqb j i) 0 (l + start_of i js ls)

unfoldable pub size_of : ℕ → List ℕ → List ℕ → ℕ
size_of i [] ls = 0
size_of i (j ∷ js) [] = 0
size_of i (j ∷ js) (l ∷ ls) = cond (eqb j i) l (size_of i js ls)

-- the octets of index i
unfoldable pub piece : ℕ → List ℕ → List ℕ → List ℕ → List ℕ
piece i is ls cell = take (size_of i is ls) (drop (start_of i is ls) cell)

-- the pieces of the indexes below n joined, in an order of index
unfoldable pub joined : Order → ℕ → List ℕ → List ℕ → List ℕ → List ℕ
joined order zero is ls cell = []
joined Rising (suc n) is ls cell = joined Rising n is ls cell ++ piece n is ls cell
joined Falling (suc n) is ls cell = piece n is ls cell ++ joined Falling n is ls cell

-- the bundle stands at the front of the output, the rest stays, and n is its length
pub record Joined (bundle before : List ℕ) (n : ℕ) (after : List ℕ) : Type 0 where
  pub size : n ≡ length bundle
  pub output : after ≡ put before 0 bundle

-- ---- entries that hold no piece

-- the entries from n on are zero
unfoldable pub zero_from : ℕ → List ℕ → List ℕ → Bool
zero_from n is ls = is_zeros (drop n is) && is_zeros (drop n ls)
