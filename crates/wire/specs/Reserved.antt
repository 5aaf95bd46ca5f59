-- Frames of draft 02 that differ in reserved flag bits alone (document 02, E2: "setting any reserved bits in the headers of a frame's messages").
use Rattle.std.specs.Prelude.{◌≡◌, List, [], ◌∷◌, ℕ, suc, ◌+◌, ◌*◌, ◌/◌, ◌%◌, take, drop}
use Rattle.wire.specs.declared.Version.TheVariants.{Draft02}
use Rattle.wire.specs.Layout.{length_field}

-- the second octet of a header with any three bits for its reserved ones: the flag H and the highest bits of the length stay
abbrev pub with_reserved : ℕ → ℕ → ℕ
with_reserved bits x = x / 128 * 128 + bits % 8 * 16 + x % 16

-- the length that a header with these octets behind its type says
abbrev pub said : ℕ → ℕ → ℕ → ℕ
said x a b = length_field Draft02 (1 ∷ x ∷ a ∷ b ∷ [])

-- The second frame is the first with any reserved bits set, or cleared, in the headers of its messages.
pub data SameButReserved : List ℕ → List ℕ → Type 0 where
  -- nothing differs from here on
  same : (xs : List ℕ) → SameButReserved xs xs
  -- an octet of indefinite padding
  padded : {xs ys : List ℕ} → SameButReserved xs ys → SameButReserved (0 ∷ xs) (0 ∷ ys)
  -- A header, and the octets that its length counts, or as many as there are; then the messages behind it.
  headed : {xs ys : List ℕ} (t x bits a b : ℕ)
      → take (said x a b) xs ≡ take (said x a b) ys
      → SameButReserved (drop (said x a b) xs) (drop (said x a b) ys)
      → SameButReserved (suc t ∷ x ∷ a ∷ b ∷ xs) (suc t ∷ with_reserved bits x ∷ a ∷ b ∷ ys)
