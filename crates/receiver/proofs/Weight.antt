-- What messages hand out came with them, or with earlier ones: no octet is handed out twice (document 02, E1: the bounds of playback).
use mathlib.Core.Bool.{Bool, true, false, cond}
use mathlib.Core.List.{List, [], ◌∷◌}
use mathlib.Core.Option.{Option, none, some}
use mathlib.Core.Path.{◌≡◌, refl}
use Prim.Native.Nat.{ℕ, zero, suc, ◌+◌, ◌≤◌}
use native.Mathlib.Omega.{arith}
use lib.ListN.{length, get_or, set}
use Rattle.octets.proofs.Flags.{cond_elim}
use Rattle.wire.specs.Message.{Message, skipped, bundle, segment, last, cancel}
use Rattle.window.specs.declared.Standing.{Standing}
use Rattle.window.specs.declared.Standing.TheVariants.{Inside, New, Outside}
use Rattle.window.specs.Window.{Window, row_of, enters}
use Rattle.window.proofs.Entering.{row_below}
use Rattle.pieces.specs.declared.Order.{Order}
use Rattle.row.specs.declared.Row.{Row}
use Rattle.row.specs.declared.Phase.TheVariants.{Free, Cancelled}
use Rattle.row.specs.Row.{empty_row, sound_row, is_live}
use Rattle.row.proofs.Shaped.{Shaped}
use Rattle.reassembly.specs.Rules as Rules
use Rattle.pieces.specs.Pieces.{bundle_max}
use Rattle.reassembly.specs.Rules.{piece_step, cancel_step, cancelled}
use Rattle.reassembly.proofs.Kept.{bundle_size, weight, empty_weight, piece-weight, piece-bundle-fits}
use Rattle.rows.specs.Message.{Board, Handed, cell_at, freed_from, moved, in_row, treat_transfer, step, handed_of}
use Rattle.rows.specs.Origin.{Origin}
use Rattle.messages.proofs.Cells.{length-cell}
use Rattle.receiver.proofs.Ready.{Ready, found-shaped, found-sound, moved_ready}

-- the octets held by all rows
unfoldable pub held : List Row → ℕ
held [] = 0
held (r ∷ rs) = weight r + held rs

unfoldable pub octets_of : Option Handed → ℕ
octets_of none = 0
octets_of (some h) = length h.octets

-- the data that a message brings
unfoldable pub payload : Message → ℕ
payload skipped = 0
payload (bundle c) = length c
payload (segment t i d) = length d
payload (last t i d) = length d
payload (cancel t) = 0

handed_size : (origin : Origin) (o : Option (List ℕ)) → octets_of (handed_of origin o) ≡ bundle_size o
unfolding octets_of handed_of bundle_size
handed_size origin none = refl
handed_size origin (some x) = refl

held-set : (rows : List Row) (k : ℕ) (x : Row) → held (set rows k x) + weight (get_or rows k (empty_row Free)) ≤ held rows + weight x
unfolding held
held-set [] k x = omega (arith, empty_weight Free)
held-set (r ∷ rs) zero x = omega arith
held-set (r ∷ rs) (suc k) x = omega (arith, held-set rs k x)

held_freed : (w r g d : ℕ) (rows : List Row) → held (freed_from w r g d rows) ≤ held rows
unfolding held freed_from
held_freed w r g d [] = omega arith
held_freed w r g d (x ∷ xs) =
    let one : weight (cond (enters w g d r) (empty_row Free) x) ≤ weight x = cond_elim (λ (q : Row). weight q ≤ weight x) (enters w g d r) (λ _. omega (arith, empty_weight Free)) (λ _. omega arith) in
    omega (arith, one, held_freed w (suc r) g d xs)

cancel_weight : (r : Row) → weight (cancelled r) ≤ weight r
unfolding cancelled
cancel_weight r = cond_elim (λ (q : Row). weight q ≤ weight r) (is_live r.phase) (λ _. omega (arith, empty_weight Cancelled)) (λ _. omega arith)

-- a row rule that hands out no more than was held and came
abbrev Weighs : ℕ → (Row → List ℕ → Rules.Outcome) → Type 0
Weighs n rule = (r : Row) (cell : List ℕ) → sound_row r ≡ true → Shaped r → length cell ≡ bundle_max → weight (rule r cell).row + bundle_size (rule r cell).bundle ≤ weight r + n

weighs_piece : (order : Order) (ending : Bool) (i : ℕ) (d : List ℕ) → Weighs (length d) (piece_step order ending i d)
weighs_piece order ending i d r cell s z l = piece-weight order ending i d r cell s z l

weighs_cancel : Weighs 0 cancel_step
unfolding cancel_step bundle_size
weighs_cancel r cell s z l = omega (arith, cancel_weight r)

-- a row rule whose bundles are no longer than a bundle may be
abbrev Fits : (Row → List ℕ → Rules.Outcome) → Type 0
Fits rule = (r : Row) (cell : List ℕ) → sound_row r ≡ true → Shaped r → length cell ≡ bundle_max → bundle_size (rule r cell).bundle ≤ bundle_max

fits-piece : (order : Order) (ending : Bool) (i : ℕ) (d : List ℕ) → Fits (piece_step order ending i d)
unfolding bundle_size
fits-piece order ending i d r cell s z l = go (piece_step order ending i d r cell).bundle refl
  where
    go : (o : Option (List ℕ)) → (piece_step order ending i d r cell).bundle ≡ o → bundle_size o ≤ bundle_max
    go none e = omega arith
    go (some x) e = piece-bundle-fits order ending i d r cell x s z l e

fits-cancel : Fits cancel_step
unfolding cancel_step bundle_size
fits-cancel r cell s z l = omega arith

module _ (w : ℕ) (win : Window w) where
  row_weight : (n : ℕ) (rule : Row → List ℕ → Rules.Outcome) → Weighs n rule → (b : Board) (t : ℕ) → Ready w b
      → octets_of (in_row w rule b t).handed + held (in_row w rule b t).board.state.rows ≤ held b.state.rows + n
  unfolding in_row
  row_weight n rule W b t R =
      let k : ℕ = row_of w t in
      let r : Row = get_or b.state.rows k (empty_row Free) in
      let k< = row_below w win t in
      let o : Rules.Outcome = rule r (cell_at b.pool k) in
      rw (handed_size _ o.bundle) (omega (arith, held-set b.state.rows k o.row, W r (cell_at b.pool k) (found-sound w win R k k<) (found-shaped w win R k k<) (length-cell w b.pool R.pool k k<)))

  transfer_weight : (s : Standing) (n : ℕ) (rule : Row → List ℕ → Rules.Outcome) → Weighs n rule → (b : Board) (t : ℕ) → Ready w b
      → octets_of (treat_transfer w s rule b t).handed + held (treat_transfer w s rule b t).board.state.rows ≤ held b.state.rows + n
  unfolding treat_transfer moved octets_of
  transfer_weight Inside n rule W b t R = row_weight n rule W b t R
  transfer_weight (New d) n rule W b t R = omega (arith, row_weight n rule W (moved w b t d) t (moved_ready w win b t d R), held_freed w 0 b.state.greatest d b.state.rows)
  transfer_weight Outside n rule W b t R = omega arith

  -- a message: what is handed out and what is held after it was held before it, or came with it
  pub step-weight : (order : Order) (b : Board) (m : Message) → Ready w b
      → octets_of (step w order b m).handed + held (step w order b m).board.state.rows ≤ held b.state.rows + payload m
  unfolding step payload octets_of handed_of
  step-weight order b skipped R = omega arith
  step-weight order b (bundle c) R = omega arith
  step-weight order b (segment t i d) R = transfer_weight _ (length d) _ (weighs_piece order false i d) b t R
  step-weight order b (last t i d) R = transfer_weight _ (length d) _ (weighs_piece order true i d) b t R
  step-weight order b (cancel t) R = transfer_weight _ 0 _ weighs_cancel b t R

  row_fits : (rule : Row → List ℕ → Rules.Outcome) → Fits rule → (b : Board) (t : ℕ) → Ready w b → octets_of (in_row w rule b t).handed ≤ bundle_max
  unfolding in_row
  row_fits rule W b t R =
      let k : ℕ = row_of w t in
      let r : Row = get_or b.state.rows k (empty_row Free) in
      let k< = row_below w win t in
      rw (handed_size _ (rule r (cell_at b.pool k)).bundle) (W r (cell_at b.pool k) (found-sound w win R k k<) (found-shaped w win R k k<) (length-cell w b.pool R.pool k k<))

  transfer_fits : (s : Standing) (rule : Row → List ℕ → Rules.Outcome) → Fits rule → (b : Board) (t : ℕ) → Ready w b → octets_of (treat_transfer w s rule b t).handed ≤ bundle_max
  unfolding treat_transfer octets_of
  transfer_fits Inside rule W b t R = row_fits rule W b t R
  transfer_fits (New d) rule W b t R = row_fits rule W (moved w b t d) t (moved_ready w win b t d R)
  transfer_fits Outside rule W b t R = omega arith

  -- a bundle handed out is no longer than a bundle may be, if one that came in one message is not
  pub step_fits : (order : Order) (b : Board) (m : Message) → Ready w b → payload m ≤ bundle_max → octets_of (step w order b m).handed ≤ bundle_max
  unfolding step payload octets_of handed_of
  step_fits order b skipped R le = omega arith
  step_fits order b (bundle c) R le = le
  step_fits order b (segment t i d) R le = transfer_fits _ _ (fits-piece order false i d) b t R
  step_fits order b (last t i d) R le = transfer_fits _ _ (fits-piece order true i d) b t R
  step_fits order b (cancel t) R le = transfer_fits _ _ fits-cancel b t R
