-- The lengths of a row's arrays, which the types of the program give.
use mathlib.Core.Path.{◌≡◌, refl}
use lib.ListN.{length}
use Rattle.row.specs.declared.Row.{Row}
use Rattle.row.specs.declared.Phase.{Phase}
use Rattle.row.specs.Row.{empty_row}

pub record Shaped (r : Row) : Type 0 where
  pub indexes64 : length r.indexes ≡ 64
  pub lengths64 : length r.lengths ≡ 64

pub empty_shaped : (p : Phase) → Shaped (empty_row p)
empty_shaped p = record { indexes64 = refl; lengths64 = refl }
