-- What a message completes, as the code answers it.
use Rattle.std.specs.Prelude.{ℕ, Option}

-- the length of a bundle, or nothing
abbrev pub Delivery : Type 0
Delivery = Option ℕ
