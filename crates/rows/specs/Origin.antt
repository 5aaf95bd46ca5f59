-- Where a bundle comes from.
use Rattle.std.specs.Prelude.{ℕ, Option}

-- the number of its transfer; none for a bundle message, which has no number
abbrev pub Origin : Type 0
Origin = Option ℕ
