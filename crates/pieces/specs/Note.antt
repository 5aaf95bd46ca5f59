-- The note from which pieces are joined (document 02, E4): "first note, in one pass over the pieces, where each index lies, then copy". It is
-- a list of starts and a list of sizes, with an entry for each index from 0 to 63.
use Rattle.std.specs.Prelude.{◌≡◌, cond, List, ℕ, ◌<◌, get_or}
use Rattle.pieces.specs.Pieces.{has, start_of, size_of}

-- the start of an index that is not held: one that no piece has
abbrev pub absent : ℕ
absent = 65535

-- The note is right: "each held index at its own piece, every other absent".
pub record Right (is ls starts sizes : List ℕ) : Type 0 where
  pub start : (i : ℕ) → i < 64 → get_or starts i 0 ≡ cond (has i is) (start_of i is ls) absent
  pub size : (i : ℕ) → i < 64 → get_or sizes i 0 ≡ cond (has i is) (size_of i is ls) 0
