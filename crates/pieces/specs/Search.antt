-- What the code's searches among the pieces answer, and its steps make; the definitions of document 01 are in Pieces.antt, of E4 in Note.antt.
use Rattle.std.specs.Prelude.{◌≡◌, cond, List, ℕ, suc, ◌+◌, ◌-◌, get_or, set, ltb, eqb}
use Rattle.pieces.specs.declared.Order.{Order}
use Rattle.pieces.specs.declared.Order.TheVariants.{Rising, Falling}
use Rattle.pieces.specs.declared.Scan.{Scan}
use Rattle.pieces.specs.Pieces.{has, has_above}
use Rattle.pieces.specs.Note.{absent}

-- what a search for index i finds
pub record Scanned (i : ℕ) (is : List ℕ) (r : Scan) : Type 0 where
  pub held : r.held ≡ has i is
  pub above : r.above ≡ has_above i is

-- past the piece at place k of n pieces, if there is one and its index is below i
unfoldable pub past_lower : ℕ → List ℕ → ℕ → ℕ → ℕ
past_lower n is k i = cond (ltb k n) (cond (ltb (get_or is k 0) i) (k + 1) k) k

-- a list of the note after one piece: x at its index i, unless a piece of that index is noted
unfoldable pub noted : List ℕ → ℕ → ℕ → List ℕ → List ℕ
noted starts i x xs = cond (eqb (get_or starts i 0) absent) (set xs i x) xs

-- the index that is joined as the k-th of n, from 0 on
abbrev pub ordered : Order → ℕ → ℕ → ℕ
ordered Rising n k = k
ordered Falling n k = n - suc k
