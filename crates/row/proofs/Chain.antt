-- Tests joined by `&&` in the code: the value where the first holds, and where it does not.
use mathlib.Core.Path.{◌≡◌}
use mathlib.Core.Bool.{Bool, true, false, ◌&&◌, false≢true}

pub passed : (a b v : Bool) → a ≡ true → v ≡ b → v ≡ (a && b)
passed true b v e f = f
passed false b v e f = absurd (false≢true e)

pub failed : (a b v : Bool) → a ≡ false → v ≡ a → v ≡ (a && b)
failed true b v e f = absurd (cc)
failed false b v e f = f
