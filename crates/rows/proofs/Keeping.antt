-- The settings of a board stay, whatever message comes.
use mathlib.Core.Path.{◌≡◌, refl}
use mathlib.Core.List.{List}
use Prim.Native.Nat.{ℕ}
use Rattle.wire.specs.Message.{Message, skipped, bundle, segment, last, cancel}
use Rattle.window.specs.declared.Standing.{Standing}
use Rattle.window.specs.declared.Standing.TheVariants.{Inside, New, Outside}
use Rattle.pieces.specs.declared.Order.{Order}
use Rattle.row.specs.declared.Row.{Row}
use Rattle.reassembly.specs.Rules as Rules
use Rattle.rows.specs.declared.Settings.{Settings}
use Rattle.rows.specs.Message.{Board, moved, in_row, treat_transfer, step}

abbrev pub settings_of : Board → Settings
settings_of b = b.state.settings

module _ (w : ℕ) where
  transfer_keeps : (s : Standing) (rule : Row → List ℕ → Rules.Outcome) (b : Board) (t : ℕ) → settings_of (treat_transfer w s rule b t).board ≡ settings_of b
  unfolding treat_transfer in_row moved
  transfer_keeps Inside rule b t = refl
  transfer_keeps (New d) rule b t = refl
  transfer_keeps Outside rule b t = refl

  pub step_keeps : (order : Order) (b : Board) (m : Message) → settings_of (step w order b m).board ≡ settings_of b
  unfolding step
  step_keeps order b skipped = refl
  step_keeps order b (bundle c) = refl
  step_keeps order b (segment t i d) = transfer_keeps _ _ b t
  step_keeps order b (last t i d) = transfer_keeps _ _ b t
  step_keeps order b (cancel t) = transfer_keeps _ _ b t
