-- The transfer window (document 01, "Transfer window"), over its size w.
use Rattle.std.specs.Prelude.{ℕ, ◌+◌, ◌-◌, ◌/◌, ◌%◌, ◌^◌, Bool, cond, ◌&&◌, ◌||◌, ◌==◌, nat_le, nat_lt}
use Rattle.window.specs.declared.Standing.{Standing}
use Rattle.window.specs.declared.Standing.TheVariants.{Inside, New, Outside}

-- "The window becomes 4, 8 or 16" (document 02, E6)
abbrev pub is_window : ℕ → Bool
is_window w = w == 4 || w == 8 || w == 16

-- "A plain start used to mean 16 and now means 8."
abbrev pub plain_window : ℕ
plain_window = 8

-- the sizes that the laws are stated over
pub data Window : ℕ → Type 0 where
  four : Window 4
  eight : Window 8
  sixteen : Window 16

-- d: T minus G, modulo 4,294,967,296
abbrev pub distance : ℕ → ℕ → ℕ
distance g t = (t + (2 ^ 32 - g)) % 2 ^ 32

-- the table, by d: "New is d from 1 to 2,147,483,647 plus half the window"
unfoldable pub standing : ℕ → ℕ → Standing
standing w d =
    cond (d == 0) Inside
    (cond (nat_le d (2147483647 + w / 2)) (New d)
    (cond (nat_le d (2 ^ 32 - w)) Outside
    Inside))

-- where G is absent every number of the window enters
unfoldable pub standing_of : ℕ → Bool → ℕ → ℕ → Standing
standing_of w present g t = cond present (standing w (distance g t)) (New w)

-- the row that number n owns: "n modulo it"
abbrev pub row_of : ℕ → ℕ → ℕ
row_of w n = n % w

-- how many numbers after g + 1 the first number of row r from there on is
abbrev pub ahead : ℕ → ℕ → ℕ → ℕ
ahead w g r = (r + (w - 1) + (w - g % w)) % w

-- row r is that of one of the d numbers after g; a row beyond the window is no number's
unfoldable pub enters : ℕ → ℕ → ℕ → ℕ → Bool
enters w g d r = nat_lt r w && nat_lt (ahead w g r) d
