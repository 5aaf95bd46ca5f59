-- The marked cases compute to what document 01 says.
use mathlib.Core.Path.{◌≡◌, refl}
use mathlib.Core.Bool.{true}
use mathlib.Core.List.{[], ◌∷◌, map}
use Prim.Native.Nat.{◌-◌, ◌^◌}
use Rattle.claims.specs.Marked as Cases
use Rattle.wire.specs.declared.Version.TheVariants.{Draft02}
use Rattle.window.specs.declared.Standing.TheVariants.{Inside, Outside}
use Rattle.window.specs.Window.{plain_window, distance, standing_of}
use Rattle.claims.proofs.Computing.{computing}
use Rattle.claims.specs.Marked.{Case, finished, fresh_board, taken_from, marked, cases}

-- M1 to M12; M5's second frame behind its first; M13, 9 behind, which asks for a window of 16 by name, and is outside the plain one
pub record MarkedCases : Type 0 where
  pub table : map (λ (c : Case). marked (taken_from (fresh_board Draft02) c.frame)) cases ≡ map (λ (c : Case). c.answer) cases
  pub m5 : marked (taken_from (taken_from (fresh_board Draft02) (5 ∷ 0 ∷ 0 ∷ 4 ∷ 0 ∷ 0 ∷ 0 ∷ 5 ∷ [])).board (4 ∷ 0 ∷ 0 ∷ 9 ∷ 0 ∷ 0 ∷ 0 ∷ 5 ∷ 0 ∷ 0 ∷ 0 ∷ 0 ∷ 65 ∷ [])) ≡ finished
  pub m13 : (standing_of 16 true 3 4294967290 ≡ Inside) × (standing_of plain_window true 3 4294967290 ≡ Outside) × (distance 3 4294967290 ≡ 2 ^ 32 - 9)

pub marked-cases : MarkedCases
unfolding computing Cases.output Cases.fresh_board Cases.taken_from Cases.marked_as Cases.marked Cases.cases
marked-cases = record { table = refl; m5 = refl; m13 = (refl, refl, refl) }
