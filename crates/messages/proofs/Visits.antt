-- A message as the code takes it, where it goes first and its row then, is the step of the definition; and it leaves a board sound.
use mathlib.Core.Bool.{Bool, true, false, cond}
use mathlib.Core.List.{List}
use mathlib.Core.Option.{Option, none, some}
use mathlib.Core.Path.{◌≡◌, refl, ◌∙◌}
use Prim.Native.Nat.{ℕ, ◌+◌, ◌*◌, ◌^◌, ◌≤◌, ◌<◌}
use native.Mathlib.Omega.{arith}
use lib.Dec.{ltb}
use lib.ListN.{length, get_or, drop, set, length-set}
use lib.Seq.{set-get_or}
use borrow.Author.Tests.{leb-true, lt-ltb, le-ltb, le-leb}
use Rattle.std.proofs.Common.{None}
use Rattle.octets.specs.Octets.{number}
use Rattle.octets.proofs.Flags.{both, or_left, cond_elim}
use Rattle.wire.specs.Layout.{message, fitting}
use Rattle.wire.specs.Message.{Message, skipped, bundle, segment, last, cancel}
use Rattle.wire.specs.declared.Kind.{Kind}
use Rattle.wire.specs.declared.Kind.TheVariants as Kinds
use Rattle.window.specs.Window.{Window, standing_of}
use Rattle.window.proofs.Sizes.{is_window_lem}
use Rattle.window.specs.declared.Standing.{Standing}
use Rattle.window.specs.declared.Standing.TheVariants.{Inside, New, Outside}
use Rattle.window.proofs.Entering.{entered, inside_present, row_below}
use Rattle.pieces.specs.declared.Order.{Order}
use Rattle.pieces.specs.Pieces.{bundle_max}
use Rattle.row.specs.Row.{empty_row, sound_row}
use Rattle.reassembly.specs.Rules.{cancel_step}
use Rattle.reassembly.specs.Rules as Rules
use Rattle.row.specs.declared.Phase.TheVariants.{Free}
use Rattle.row.specs.declared.Row.{Row}
use Rattle.row.proofs.Shaped.{Shaped}
use Rattle.reassembly.proofs.Kept.{piece-sound, piece-cell, piece-bundle-fits, cancel-sound}
use Rattle.rows.specs.Message.{Board, Outcome, cell_at, put_cell, handed_of, freed_from, moved, in_row, treat_transfer, step}
use Rattle.rows.specs.Visit.{stay, transfer_visit, visit_of}
use Rattle.messages.specs.Run.{admits, row_step}
use Rattle.rows.specs.State.{window_of, sound_from, sound}
use Rattle.rows.specs.declared.Act.{Act}
use Rattle.rows.specs.declared.Act.TheVariants.{Pass, HandOut, Piece, Cancel}
use Rattle.rows.specs.declared.State.{State}
use Rattle.rows.specs.declared.Visit.{Visit}
use Rattle.messages.proofs.Cells.{length-cell, length-put-cell, same-cell}
use Rattle.rows.proofs.Rows.{sound-parts, sound-whole, sound-get, sound-set, sound-in, free_in, sound_present, sound_freed, length_freed, own-opened}

-- the rows once those of skipped numbers are freed
abbrev pub cleared : ℕ → ℕ → ℕ → List Row → List Row
cleared w g entered rows = cond (ltb 1 entered) (freed_from w 0 g entered rows) rows

pub cleared-some : (w g d : ℕ) (rows : List Row) → 1 < d → freed_from w 0 g d rows ≡ cleared w g d rows
cleared-some w g d rows h = rw (lt-ltb 1 d h)

pub cleared-none : (w g d : ℕ) (rows : List Row) → d ≤ 1 → rows ≡ cleared w g d rows
cleared-none w g d rows h = rw (le-ltb 1 d h)

-- and then the row of a number that enters
abbrev pub opened : ℕ → ℕ → List Row → List Row
opened slot entered rows = cond (ltb 0 entered) (set rows slot (empty_row Free)) rows

pub opened_some : (slot d : ℕ) (rows : List Row) → 0 < d → set rows slot (empty_row Free) ≡ opened slot d rows
opened_some slot d rows h = rw (lt-ltb 0 d h)

pub opened-none : (slot d : ℕ) (rows : List Row) → d ≤ 0 → rows ≡ opened slot d rows
opened-none slot d rows h = rw (le-ltb 0 d h)

module _ (w : ℕ) (order : Order) (b : Board) where
  -- the rows that a visit finds
  abbrev pub rows_for : Visit → List Row
  rows_for v = opened v.slot v.entered (cleared w b.state.greatest v.entered b.state.rows)

  -- what a visit makes of a board, with its row's outcome
  abbrev pub landed : Visit → Rules.Outcome → Outcome
  landed v o = record {
    board = record {
      state = record { present = v.present; greatest = v.greatest; rows = set (rows_for v) v.slot o.row; settings = b.state.settings };
      pool = put_cell b.pool v.slot o.cell;
    };
    handed = handed_of v.origin o.bundle;
  }

  -- the row that a visit finds
  abbrev pub visited : Visit → Row
  visited v = get_or (rows_for v) v.slot (empty_row Free)

  abbrev pub outcome : Visit → List ℕ → Rules.Outcome
  outcome v content = row_step order v.act content (visited v) (cell_at b.pool v.slot)

module _ (w : ℕ) (win : Window w) (order : Order) (b : Board) (full : w ≤ length b.state.rows) (pooled : length b.pool ≡ w * bundle_max) where
  abbrev s : State
  s = b.state

  positive : 0 < w
  positive = omega (arith, row_below w win 0)

  passed : (o : Option (List ℕ)) (act : Act) → landed w order b (stay s.present s.greatest act) (record { row = get_or s.rows 0 (empty_row Free); cell = cell_at b.pool 0; bundle = o })
      ≡ record { board = b; handed = handed_of None o }
  passed o act = rw (set-get_or s.rows 0 (empty_row Free), same-cell w b.pool pooled 0 positive)

  module _ (low : s.greatest < 2 ^ 32) (content : List ℕ) (t : ℕ) (act : Act) (rule : Row → List ℕ → Rules.Outcome) (does : (r : Row) (cell : List ℕ) → row_step order act content r cell ≡ rule r cell) where
    landed_transfer : (d : Standing) → standing_of w s.present s.greatest t ≡ d → (transfer_visit w d s.present s.greatest act t).greatest < 2 ^ 32
        → let v : Visit = transfer_visit w d s.present s.greatest act t in landed w order b v (outcome w order b v content) ≡ treat_transfer w d rule b t
    unfolding transfer_visit treat_transfer in_row moved row_step handed_of
    landed_transfer Inside e t< = rw does
    landed_transfer (New d) e t< =
        let E = entered w win s.present s.greatest t d low t< e in
        rw (lt-ltb 0 d E.some, does, own-opened w win s.greatest s.rows full t d E)
    landed_transfer Outside e t< = passed none Pass

  pub landed-step : s.greatest < 2 ^ 32 → (k : Kind) (content : List ℕ) → (visit_of w s.present s.greatest (message k content)).greatest < 2 ^ 32
      → let v : Visit = visit_of w s.present s.greatest (message k content) in landed w order b v (outcome w order b v content) ≡ step w order b (message k content)
  unfolding visit_of message step row_step handed_of
  landed-step low Kinds.Skipped content t< = passed none Pass
  landed-step low Kinds.Bundle content t< = passed (some content) HandOut
  landed-step low Kinds.Segment content t< = landed_transfer low content (number content) (Piece false) _ (λ r cell. refl) _ refl t<
  landed-step low Kinds.End content t< = landed_transfer low content (number content) (Piece true) _ (λ r cell. refl) _ refl t<
  landed-step low Kinds.Cancel content t< = landed_transfer low content (number content) Cancel _ (λ r cell. refl) _ refl t<

-- ---- what a visit keeps

none-some : {A : Type 0} {x : List ℕ} → none ≡ some x → A
none-some e = absurd (let z : ◌≡◌ {A = ℕ} 0 1 = cc in omega arith)

module _ (order : Order) (content : List ℕ) (r : Row) (cell : List ℕ) where
  row-sound : (act : Act) → sound_row r ≡ true → Shaped r → sound_row (row_step order act content r cell).row ≡ true
  unfolding row_step cancel_step
  row-sound Pass s z = s
  row-sound HandOut s z = s
  row-sound (Piece ending) s z = piece-sound order ending (number (drop 4 content)) (drop 8 content) r cell s z
  row-sound Cancel s z = cancel-sound r s

  pub row-cell : (act : Act) → length cell ≡ bundle_max → length (row_step order act content r cell).cell ≡ bundle_max
  unfolding row_step cancel_step
  row-cell Pass l = l
  row-cell HandOut l = l
  row-cell (Piece ending) l = piece-cell order ending (number (drop 4 content)) (drop 8 content) r cell l
  row-cell Cancel l = l

  pub row_fits : (act : Act) → admits act (length content) ≡ true → sound_row r ≡ true → Shaped r → length cell ≡ bundle_max
      → (x : List ℕ) → (row_step order act content r cell).bundle ≡ some x → length x ≤ bundle_max
  unfolding row_step cancel_step
  row_fits Pass a s z l x e = none-some e
  row_fits HandOut a s z l x e = let q : content ≡ x = cc in rw (← q) (leb-true (length content) bundle_max a)
  row_fits (Piece ending) a s z l x e = piece-bundle-fits order ending (number (drop 4 content)) (drop 8 content) r cell x s z l e
  row_fits Cancel a s z l x e = none-some e

-- A visit stays where the window is, and leaves row 0 as it is; or it goes to a row of a window that has a greatest number.
pub data Visiting (w : ℕ) (present : Bool) (g : ℕ) : Visit → Type 0 where
  stays : (act : Act) → ((order : Order) (content : List ℕ) (r : Row) (cell : List ℕ) → (row_step order act content r cell).row ≡ r) → Visiting w present g (stay present g act)
  goes : (v : Visit) → v.slot < w → v.present ≡ true → Visiting w present g v

module _ (w : ℕ) (win : Window w) (present : Bool) (g : ℕ) where
  visiting_transfer : (act : Act) (t : ℕ) (d : Standing) → standing_of w present g t ≡ d → Visiting w present g (transfer_visit w d present g act t)
  unfolding transfer_visit row_step
  visiting_transfer act t Inside e = goes _ (row_below w win t) (inside_present w g present t e)
  visiting_transfer act t (New d) e = goes _ (row_below w win t) refl
  visiting_transfer act t Outside e = stays Pass λ order content r cell. refl

  pub visiting : (m : Message) → Visiting w present g (visit_of w present g m)
  unfolding visit_of row_step
  visiting skipped = stays Pass λ order content r cell. refl
  visiting (bundle c) = stays HandOut λ order content r cell. refl
  visiting (segment t i d) = visiting_transfer (Piece false) t _ refl
  visiting (last t i d) = visiting_transfer (Piece true) t _ refl
  visiting (cancel t) = visiting_transfer Cancel t _ refl

  pub visit-slot : {v : Visit} → Visiting w present g v → v.slot < w
  visit-slot (stays act h) = omega (arith, row_below w win 0)
  visit-slot (goes v h p) = h

  admits_transfer : (n : ℕ) (act : Act) (t : ℕ) (d : Standing) → admits act n ≡ true → admits (transfer_visit w d present g act t).act n ≡ true
  unfolding transfer_visit
  admits_transfer n act t Inside a = a
  admits_transfer n act t (New d) a = a
  admits_transfer n act t Outside a = refl

  -- a content that fits its kind fits what is done with it
  pub visit-admits : (k : Kind) (content : List ℕ) → fitting k (length content) ≡ true → length content ≤ bundle_max → admits (visit_of w present g (message k content)).act (length content) ≡ true
  unfolding visit_of message fitting
  visit-admits Kinds.Skipped content f l = refl
  visit-admits Kinds.Bundle content f l = le-leb (length content) bundle_max l
  visit-admits Kinds.Segment content f l = admits_transfer (length content) (Piece false) (number content) (standing_of w present g (number content)) f
  visit-admits Kinds.End content f l = admits_transfer (length content) (Piece true) (number content) (standing_of w present g (number content)) f
  visit-admits Kinds.Cancel content f l = admits_transfer (length content) Cancel (number content) (standing_of w present g (number content)) refl

-- a board with a sound state of window w, and a pool of its size
pub record Sound (w : ℕ) (b : Board) : Type 0 where
  pub window : window_of b.state ≡ w
  pub sound : sound b.state ≡ true
  pub rows : w ≤ length b.state.rows
  pub pool : length b.pool ≡ w * bundle_max

module _ (w : ℕ) (win : Window w) (order : Order) (b : Board) (R : Sound w b) where
  rows_sound : sound_from w 0 b.state.present b.state.rows ≡ true
  rows_sound = rw (← R.window) (sound-parts b.state R.sound).2

  rows_for_sound : (v : Visit) → sound_from w 0 true (rows_for w order b v) ≡ true
  rows_for_sound v =
      let s = sound_present w 0 b.state.present b.state.rows rows_sound in
      let c = cond_elim (λ (rows : List Row). sound_from w 0 true rows ≡ true) (ltb 1 v.entered) (λ _. sound_freed w 0 b.state.greatest v.entered b.state.rows s) (λ _. s) in
      cond_elim (λ (rows : List Row). sound_from w 0 true rows ≡ true) (ltb 0 v.entered) (λ _. sound-set w true 0 _ v.slot (empty_row Free) c (free_in (ltb (0 + v.slot) w))) (λ _. c)

  pub rows-for-full : (v : Visit) → length (rows_for w order b v) ≡ length b.state.rows
  rows-for-full v =
      let n = length b.state.rows in
      let c = cond_elim (λ (rows : List Row). length rows ≡ n) (ltb 1 v.entered) (λ _. length_freed w 0 b.state.greatest v.entered b.state.rows) (λ _. refl) in
      cond_elim (λ (rows : List Row). length rows ≡ n) (ltb 0 v.entered) (λ _. length-set (cleared w b.state.greatest v.entered b.state.rows) v.slot (empty_row Free) ∙ c) (λ _. c)

  -- the row that a visit finds is sound
  pub visited-sound : (v : Visit) → v.slot < w → sound_row (visited w order b v) ≡ true
  visited-sound v h = (both _ _ (sound-get w true 0 (rows_for w order b v) v.slot (empty_row Free) (omega (arith, rows-for-full v, R.rows)) (rows_for_sound v))).0

  pub cell_full : (v : Visit) → v.slot < w → length (cell_at b.pool v.slot) ≡ bundle_max
  cell_full v h = length-cell w b.pool R.pool v.slot h

  module _ (content : List ℕ) where
    state_sound : {v : Visit} → Visiting w b.state.present b.state.greatest v → Shaped (visited w order b v) → sound (landed w order b v (outcome w order b v content)).board.state ≡ true
    state_sound (stays act h) z =
        let s : State = b.state in
        let p = sound-parts s R.sound in
        let r = sound-get w s.present 0 s.rows 0 (empty_row Free) (omega (arith, R.rows, row_below w win 0)) rows_sound in
        sound-whole _ p.0 p.1 (rw R.window (sound-set w s.present 0 s.rows 0 _ rows_sound (rw (h order content (get_or s.rows 0 (empty_row Free)) (cell_at b.pool 0)) r)))
    state_sound (goes v h p) z =
        sound-whole _ (rw R.window (is_window_lem w win)) (or_left v.present _ p) (rw (p, R.window)
        (sound-set w true 0 (rows_for w order b v) v.slot _ (rows_for_sound v)
        (sound-in _ _ (row-sound order content (visited w order b v) (cell_at b.pool v.slot) v.act (visited-sound v h) z) (lt-ltb (0 + v.slot) w (omega (arith, h))))))

    pub landed-sound : {v : Visit} → Visiting w b.state.present b.state.greatest v → Shaped (visited w order b v) → Sound w (landed w order b v (outcome w order b v content)).board
    landed-sound {v} g z =
        let h = visit-slot w win b.state.present b.state.greatest g in
        let o = outcome w order b v content in
        record {
          window = R.window;
          sound = state_sound g z;
          rows = rw (length-set (rows_for w order b v) v.slot o.row, rows-for-full v) R.rows;
          pool = length-put-cell w b.pool R.pool v.slot h o.cell (row-cell order content (visited w order b v) (cell_at b.pool v.slot) v.act (cell_full v h));
        }
