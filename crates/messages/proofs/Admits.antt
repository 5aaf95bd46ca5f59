-- A content is long enough for what is done with it.
use mathlib.Core.Bool.{Bool, true}
use mathlib.Core.List.{List}
use mathlib.Core.Path.{◌≡◌}
use Prim.Native.Nat.{ℕ, ◌-◌, ◌≤◌}
use native.Mathlib.Omega.{arith}
use lib.ListN.{length, take, drop, length-drop}
use lib.Seq.{take_all}
use borrow.Author.Tests.{leb-true}
use Rattle.pieces.specs.Pieces.{bundle_max}
use Rattle.messages.specs.Run.{admits}
use Rattle.rows.specs.declared.Act.{Act}
use Rattle.rows.specs.declared.Act.TheVariants.{HandOut, Piece}

module _ (a : Act) (n : ℕ) (fits : admits a n ≡ true) where
  pub bundle-short : a ≡ HandOut → n ≤ bundle_max
  bundle-short e = leb-true n bundle_max (rw e at fits)

  pub piece-long : {ending : Bool} → a ≡ Piece ending → 8 ≤ n
  piece-long e = leb-true 8 n (rw e at fits)

-- what stands from an offset to the end
pub part_to_end : (k : ℕ) (xs : List ℕ) → take (length xs - k) (drop k xs) ≡ drop k xs
part_to_end k xs = take_all (length xs - k) (drop k xs) (rw length-drop (omega arith))
