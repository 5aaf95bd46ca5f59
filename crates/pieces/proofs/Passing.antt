-- Past pieces of lower indexes: what is left has every index that is not lower.
use mathlib.Core.Path.{◌≡◌, ◌∙◌}
use mathlib.Core.List.{List}
use Prim.Native.Nat.{ℕ, ◌+◌, ◌≤◌, ◌<◌}
use native.Mathlib.Omega.{arith}
use lib.ListN.{length, drop, get_or}
use lib.Dec.{ltb}
use borrow.Author.Tests.{ltb-true}
use Rattle.octets.proofs.Flags.{cond_elim}
use Rattle.pieces.proofs.Lists.{has_there}
use Rattle.pieces.specs.Pieces.{has}
use Rattle.pieces.specs.Search.{past_lower}

-- the place stays, or a piece of a lower index is passed
past_cases : (P : ℕ → Type 0) (i k n : ℕ) (xs : List ℕ) → P k → (k < n → get_or xs k 0 < i → P (k + 1)) → P (past_lower n xs k i)
unfolding past_lower
past_cases P i k n xs stays moves =
    cond_elim P (ltb k n) (λ e. cond_elim P (ltb (get_or xs k 0) i) (λ f. moves (ltb-true k n e) (ltb-true (get_or xs k 0) i f)) λ _. stays) λ _. stays

-- the indexes from i on that are held are held from place k on
abbrev pub Left : ℕ → ℕ → List ℕ → Type 0
Left i k xs = (k ≤ length xs) × ((j : ℕ) → i ≤ j → has j xs ≡ has j (drop k xs))

pub left-past : (i k r : ℕ) (xs : List ℕ) → r ≡ past_lower (length xs) xs k i → Left i k xs → Left i r xs
left-past i k r xs q (h, e) = rw q (past_cases (λ p. Left i p xs) i k (length xs) xs (h, e) λ b lower. (omega arith, λ j g. e j g ∙ has_there j k xs b (λ z. omega arith)))
