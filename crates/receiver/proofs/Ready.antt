-- A board whose calls are refused only for their frame, place or output: every message leaves it so, and every call.
use mathlib.Core.Path.{◌≡◌, refl, ◌∙◌}
use mathlib.Core.Bool.{Bool, true, false, ◌&&◌}
use mathlib.Core.Option.{Option, none, some}
use mathlib.Core.List.{List, [], ◌∷◌}
use Prim.Native.Nat.{ℕ, zero, suc, ◌+◌, ◌*◌, ◌<◌}
use native.Mathlib.Omega.{arith}
use lib.ListN.{length, get_or, set, replicate, length-set, length-replicate}
use lib.Dec.{ltb}
use borrow.Author.Tests.{lt-ltb}
use Rattle.octets.proofs.Flags.{and, both, cond_elim}
use Rattle.wire.specs.Message.{Message, skipped, bundle, segment, last, cancel}
use Rattle.wire.specs.Frame.{Item}
use Rattle.window.specs.declared.Standing.{Standing}
use Rattle.window.specs.declared.Standing.TheVariants.{Inside, New, Outside}
use Rattle.window.specs.Window.{Window, is_window, standing_of, row_of, enters}
use Rattle.window.proofs.Sizes.{is_window_lem, window_range}
use Rattle.window.proofs.Entering.{inside_present, row_below}
use Rattle.pieces.specs.declared.Order.{Order}
use Rattle.row.specs.declared.Row.{Row}
use Rattle.row.specs.declared.Phase.TheVariants.{Free}
use Rattle.reassembly.specs.Rules as Rules
use Rattle.pieces.specs.Pieces.{bundle_max}
use Rattle.row.specs.Row.{empty_row, sound_row}
use Rattle.reassembly.specs.Rules.{piece_step, cancel_step}
use Rattle.row.proofs.Shaped.{Shaped, empty_shaped}
use Rattle.reassembly.proofs.Kept.{cancel-sound, cancel_shaped, piece-sound, piece-shaped, piece-cell}
use Rattle.receiver.specs.declared.Refusal.{Refusal}
use Rattle.rows.specs.State as State
use Rattle.wire.specs.declared.Version.{Version}
use Rattle.rows.specs.State.{window_of, row_max, sound_in, sound_from, fresh}
use Rattle.rows.specs.Message.{Draft, Board, Handed, Outcome, cell_at, moved, in_row, treat_transfer, step, messages_from}
use Rattle.receiver.specs.Receive.{Reply, replied, delivered, refusal, treat, receive_as}
use Rattle.rows.proofs.Rows.{sound-parts, sound-whole, sound-in, free_in, sound-get, sound-set, sound_present, sound_freed, length_freed, get_or_freed}
use Rattle.messages.proofs.Cells.{length-cell, length-put-cell}

pub record Ready (w : ℕ) (b : Board) : Type 0 where
  pub window : window_of b.state ≡ w
  pub sound : State.sound b.state ≡ true
  pub shaped : (r : ℕ) → r < row_max → Shaped (get_or b.state.rows r (empty_row Free))
  pub rows : length b.state.rows ≡ row_max
  pub pool : length b.pool ≡ w * bundle_max

-- what a row rule keeps
record Keeps (rule : Row → List ℕ → Rules.Outcome) : Type 0 where
  sound : (r : Row) (cell : List ℕ) → sound_row r ≡ true → Shaped r → sound_row (rule r cell).row ≡ true
  shaped : (r : Row) (cell : List ℕ) → Shaped r → Shaped (rule r cell).row
  cell : (r : Row) (cell : List ℕ) → length cell ≡ bundle_max → length (rule r cell).cell ≡ bundle_max

keeps-piece : (order : Order) (ending : Bool) (i : ℕ) (d : List ℕ) → Keeps (piece_step order ending i d)
keeps-piece order ending i d = record { sound = piece-sound order ending i d; shaped = piece-shaped order ending i d; cell = piece-cell order ending i d }

keeps-cancel : Keeps cancel_step
unfolding cancel_step
keeps-cancel = record { sound = λ r cell s z. cancel-sound r s; shaped = λ r cell z. cancel_shaped r z; cell = λ r cell l. l }

-- what holds of the row that is put and of the others
set_elim : (P : Row → Type 0) (rows : List Row) (k i : ℕ) (x z : Row) → P x → P (get_or rows i z) → P (get_or (set rows k x) i z)
set_elim P [] k i x z p q = q
set_elim P (r ∷ rs) zero zero x z p q = p
set_elim P (r ∷ rs) zero (suc i) x z p q = q
set_elim P (r ∷ rs) (suc k) zero x z p q = q
set_elim P (r ∷ rs) (suc k) (suc i) x z p q = set_elim P rs k i x z p q

module _ (w : ℕ) (win : Window w) where
  rows_sound : {b : Board} → Ready w b → sound_from w 0 b.state.present b.state.rows ≡ true
  rows_sound {b} R = rw (← R.window) (sound-parts b.state R.sound).2

  low : {b : Board} → Ready w b → (k : ℕ) → k < w → k < length b.state.rows
  low R k h = omega (arith, R.rows, window_range w win)

  pub found-shaped : {b : Board} → Ready w b → (k : ℕ) → k < w → Shaped (get_or b.state.rows k (empty_row Free))
  found-shaped R k h = R.shaped k (omega (arith, window_range w win))

  pub found-sound : {b : Board} → Ready w b → (k : ℕ) → k < w → sound_row (get_or b.state.rows k (empty_row Free)) ≡ true
  found-sound {b} R k h = (both _ _ (sound-get w b.state.present 0 b.state.rows k (empty_row Free) (low R k h) (rows_sound R))).0

  row_ready : (rule : Row → List ℕ → Rules.Outcome) → Keeps rule → (b : Board) (t : ℕ) → Ready w b → b.state.present ≡ true → Ready w (in_row w rule b t).board
  unfolding in_row
  row_ready rule K b t R present =
      let k : ℕ = row_of w t in
      let r : Row = get_or b.state.rows k (empty_row Free) in
      let cell : List ℕ = cell_at b.pool k in
      let k< = row_below w win t in
      let row : Row = (rule r cell).row in
      let here : (b.state.present && ltb (0 + k) w) ≡ true = and b.state.present (ltb (0 + k) w) present (lt-ltb (0 + k) w (omega (arith, k<))) in
      let new = sound-in (b.state.present && ltb (0 + k) w) row (K.sound r cell (found-sound R k k<) (found-shaped R k k<)) here in
      let p = sound-parts b.state R.sound in
      record {
        window = R.window;
        sound = sound-whole _ p.0 p.1 (rw R.window (sound-set w b.state.present 0 b.state.rows k row (rows_sound R) new));
        shaped = λ i i<. set_elim Shaped b.state.rows k i row (empty_row Free) (K.shaped r cell (found-shaped R k k<)) (R.shaped i i<);
        rows = length-set b.state.rows k row ∙ R.rows;
        pool = length-put-cell w b.pool R.pool k k< (rule r cell).cell (K.cell r cell (length-cell w b.pool R.pool k k<));
      }

  pub moved_ready : (b : Board) (t d : ℕ) → Ready w b → Ready w (moved w b t d)
  unfolding moved
  moved_ready b t d R =
      record {
        window = R.window;
        sound = sound-whole _ (rw R.window (is_window_lem w win)) refl (rw R.window (sound_freed w 0 b.state.greatest d b.state.rows (sound_present w 0 b.state.present b.state.rows (rows_sound R))));
        shaped = λ i i<. rw (get_or_freed w 0 b.state.greatest d b.state.rows i (empty_row Free) (omega (arith, R.rows)))
            (cond_elim Shaped (enters w b.state.greatest d (0 + i)) (λ e. empty_shaped Free) (λ e. R.shaped i i<));
        rows = length_freed w 0 b.state.greatest d b.state.rows ∙ R.rows;
        pool = R.pool;
      }

  transfer_ready : (s : Standing) (rule : Row → List ℕ → Rules.Outcome) → Keeps rule → (b : Board) (t : ℕ) → standing_of w b.state.present b.state.greatest t ≡ s
      → Ready w b → Ready w (treat_transfer w s rule b t).board
  unfolding treat_transfer moved
  transfer_ready Inside rule K b t e R = row_ready rule K b t R (inside_present w b.state.greatest b.state.present t e)
  transfer_ready (New d) rule K b t e R = row_ready rule K (moved w b t d) t (moved_ready b t d R) refl
  transfer_ready Outside rule K b t e R = R

  pub step-ready : (order : Order) (b : Board) (m : Message) → Ready w b → Ready w (step w order b m).board
  unfolding step
  step-ready order b skipped R = R
  step-ready order b (bundle c) R = R
  step-ready order b (segment t i d) R = transfer_ready _ _ (keeps-piece order false i d) b t refl R
  step-ready order b (last t i d) R = transfer_ready _ _ (keeps-piece order true i d) b t refl R
  step-ready order b (cancel t) R = transfer_ready _ _ keeps-cancel b t refl R

  delivered_ready : (o : Option Handed) (b : Board) (next : ℕ) (output : List ℕ) (later : Reply) → Ready w b → Ready w later.board → Ready w (delivered o b next output later).board
  unfolding delivered
  delivered_ready none b next output later R L = L
  delivered_ready (some h) b next output later R L = R

  module _ (D : Draft) where
    pub treat-ready : (b : Board) (is : List Item) (output : List ℕ) → Ready w b → Ready w (treat D w b is output).board
    unfolding treat
    treat-ready b [] output R = R
    treat-ready b (i ∷ is) output R =
        let S = step-ready D.order b i.message R in
        let o : Outcome = step w D.order b i.message in
        delivered_ready o.handed o.board i.next output (treat D w o.board is output) S (treat-ready o.board is output S)

    pub receive-ready : (b : Board) (frame : List ℕ) (place : ℕ) (output : List ℕ) → Ready w b → Ready w (receive_as D w b frame place output).board
    unfolding receive_as replied
    receive-ready b frame place output R = go (refusal D w b frame place output)
      where
        go : (r : Option Refusal) → Ready w (replied r b output (treat D w b (messages_from D frame place) output)).board
        go none = treat-ready b (messages_from D frame place) output R
        go (some r) = R

  free_rows : (r n : ℕ) → sound_from w r false (replicate n (empty_row Free)) ≡ true
  unfolding sound_from
  free_rows r zero = refl
  free_rows r (suc n) = and (sound_in false (empty_row Free)) (sound_from w (suc r) false (replicate n (empty_row Free))) (free_in false) (free_rows (suc r) n)

  free-row : (n i : ℕ) → get_or (replicate n (empty_row Free)) i (empty_row Free) ≡ empty_row Free
  free-row zero i = refl
  free-row (suc n) zero = refl
  free-row (suc n) (suc i) = free-row n i

  pub fresh-ready : (v : Version) (pool : List ℕ) → length pool ≡ w * bundle_max → Ready w (record { state = fresh v w; pool = pool })
  unfolding fresh
  fresh-ready v pool l =
      record {
        window = refl;
        sound = sound-whole _ (is_window_lem w win) refl (free_rows 0 row_max);
        shaped = λ i i<. rw (free-row row_max i) (empty_shaped Free);
        rows = length-replicate row_max (empty_row Free);
        pool = l;
      }

-- a state with another window, which no start gives, is not sound
pub refused_unsound : (v : Version) (w : ℕ) → is_window w ≡ false → State.sound (fresh v w) ≡ false
unfolding fresh State.sound
refused_unsound v w e = rw e
