-- Where a message goes, as the code reckons it before it takes the row. The laws that tie it to the definition of a message are in messages/proofs/.
use Rattle.std.specs.Prelude.{Bool, true, false, ℕ, None, Some}
use Rattle.wire.specs.Message.{Message, skipped, bundle, segment, last, cancel}
use Rattle.window.specs.declared.Standing.{Standing}
use Rattle.window.specs.declared.Standing.TheVariants.{Inside, New, Outside}
use Rattle.window.specs.Window.{standing_of, row_of}
use Rattle.rows.specs.declared.Act.{Act}
use Rattle.rows.specs.declared.Act.TheVariants.{Pass, HandOut, Piece, Cancel}
use Rattle.rows.specs.declared.Visit.{Visit}

-- a message that goes to no row leaves the window, and passes row 0 through
abbrev pub stay : Bool → ℕ → Act → Visit
stay present g act = record { act = act; slot = 0; entered = 0; present = present; greatest = g; origin = None }

module _ (w : ℕ) where
  unfoldable pub transfer_visit : Standing → Bool → ℕ → Act → ℕ → Visit
  transfer_visit Inside present g act t = record { act = act; slot = row_of w t; entered = 0; present = present; greatest = g; origin = Some t }
  transfer_visit (New d) present g act t = record { act = act; slot = row_of w t; entered = d; present = true; greatest = t; origin = Some t }
  transfer_visit Outside present g act t = stay present g Pass

  unfoldable pub visit_of : Bool → ℕ → Message → Visit
  visit_of present g skipped = stay present g Pass
  visit_of present g (bundle c) = stay present g HandOut
  visit_of present g (segment t i d) = transfer_visit (standing_of w present g t) present g (Piece false) t
  visit_of present g (last t i d) = transfer_visit (standing_of w present g t) present g (Piece true) t
  visit_of present g (cancel t) = transfer_visit (standing_of w present g t) present g Cancel t
