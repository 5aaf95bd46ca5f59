-- A board that takes messages of one honest record, tied to its course: what each message does to the one it does to the other.
use mathlib.Core.Path.{◌≡◌, refl, ap, ◌∙◌}
use mathlib.Core.Bool.{Bool, true, false, cond, ◌&&◌}
use mathlib.Core.Logic.{◌⊎◌, inl, inr}
use mathlib.Core.Option.{Option}
use mathlib.Core.List.{List, [], ◌∷◌, map, map-append, Memᴰ}
use Prim.Native.Nat.{ℕ, zero, suc, ◌+◌, ◌*◌, ◌-◌, ◌≤◌, ◌<◌, max}
use native.Mathlib.Nat.{zero-add}
use native.Mathlib.Omega.{arith}
use lib.ListN.{length, get_or, length-set, length-replicate}
use lib.Seq.{get_or-set_same, get_or-set_other}
use lib.Dec.{ltb, leb}
use borrow.Author.Tests.{ltb-true, ltb-false, leb-true, leb-false}
use Rattle.std.proofs.Common.{Some}
use Rattle.octets.proofs.Flags.{bool}
use Rattle.wire.specs.declared.Version.{Version}
use Rattle.wire.specs.Message.{Message}
use Rattle.window.specs.declared.Standing.{Standing}
use Rattle.window.specs.declared.Standing.TheVariants.{Inside, New, Outside}
use Rattle.window.specs.Window.{Window, standing_of, row_of, enters}
use Rattle.window.proofs.Sizes.{window_range}
use Rattle.window.proofs.Entering.{row_below, all_enter}
use Rattle.pieces.specs.declared.Order.{Order}
use Rattle.row.specs.declared.Row.{Row}
use Rattle.row.specs.declared.Phase.TheVariants.{Free}
use Rattle.reassembly.specs.Rules as Rules
use Rattle.pieces.specs.Pieces.{bundle_max}
use Rattle.row.specs.Row.{empty_row}
use Rattle.reassembly.specs.Rules.{piece_step, cancel_step}
use Rattle.rows.specs.State.{row_max, fresh}
use Rattle.rows.specs.Message.{Board, Handed, Outcome, cell_at, handed_of, moved, in_row, treat_transfer, transfer, step}
use Rattle.rows.proofs.Rows.{length_freed, get_or_freed}
use Rattle.messages.proofs.Cells.{length-cell, length-put-cell}
use Rattle.receiver.proofs.Pool.{cell-put, cell_other}
use Rattle.rows.specs.Messages.{listed, board_after, handed_by}
use Rattle.claims.specs.Record.{Transfers, number_at, is_last, piece_at, Honest, padding, whole, piece, cancelled}
use Rattle.claims.specs.Calls.{Fresh, Delivery}
use Rattle.claims.specs.Demand3.{delivery}
use Rattle.claims.proofs.Track.{Track, live, stop, newly, stop_quiet, change, change_elim, bundle_at, Course, begin, touch, event, after_event, hands_out, grown, next, gives, course_after, given_by}
use Rattle.claims.proofs.Pieces.{Represents, Stepped, bundle_if, holds-none, piece-step, cancel-step}
use Rattle.claims.proofs.Window.{place_of, piece-event, window_size, standing-new, standing-in, standing-out, enters-new, enters-old, other_row}

-- what is handed out, as a call answers it
abbrev pub answered : Handed → Delivery
answered h = delivery h.origin h.octets

abbrev answers : Option Handed → List Delivery
answers o = map answered (listed o)

module _ (order : Order) (w : ℕ) (win : Window w) (T : Transfers) where
  abbrev slot : ℕ → ℕ
  slot k = row_of w (number_at T k)

  -- the row and the cell of the number k places after the first stand for a track
  abbrev Stands : Board → ℕ → Track → Type 0
  Stands b k t = Represents (T.pieces k) (get_or b.state.rows (slot k) (empty_row Free)) (cell_at b.pool (slot k)) t

  pub record Tied (b : Board) (a : Course) : Type 0 where
    absent : a.bound ≡ 0 → b.state.present ≡ false
    greatest : (g : ℕ) → a.bound ≡ suc g → (b.state.present ≡ true) × (b.state.greatest ≡ number_at T g)
    bounded : a.bound ≤ T.count
    rows : w ≤ length b.state.rows
    pool : length b.pool ≡ w * bundle_max
    new : (k : ℕ) → a.bound ≤ k → a.tracks k ≡ live []
    within : (k : ℕ) → k < a.bound → a.bound ≤ k + w → Stands b k (a.tracks k)

  slot< : (k : ℕ) → slot k < w
  slot< k = row_below w win (number_at T k)

  abbrev bundle? : Bool → ℕ → List Delivery
  bundle? b k = cond b (bundle_at order T k ∷ []) []

  handed_is : (k : ℕ) (b : Bool) → answers (handed_of (Some (number_at T k)) (bundle_if (T.pieces k) order b)) ≡ bundle? b k
  unfolding handed_of bundle_if bundle_at listed
  handed_is k true = refl
  handed_is k false = refl

  -- a row rule that takes the track of k to t
  abbrev Does : (Row → List ℕ → Rules.Outcome) → ℕ → Track → Track → Type 0
  Does rule k t t' = (r : Row) (cell : List ℕ) → Represents (T.pieces k) r cell t → length cell ≡ bundle_max → Stepped (T.pieces k) order (rule r cell) t t'

  -- A message for a number inside the window.
  module _ {b : Board} {a : Course} (s : Tied b a) (k : ℕ) (k< : k < a.bound) (near : a.bound ≤ k + w)
      (rule : Row → List ℕ → Rules.Outcome) (t : Track) (does : Does rule k (a.tracks k) t) where
    abbrev o : Rules.Outcome
    o = rule (get_or b.state.rows (slot k) (empty_row Free)) (cell_at b.pool (slot k))

    abbrev after : Board
    after = (in_row w rule b (number_at T k)).board

    did : Stepped (T.pieces k) order o (a.tracks k) t
    did = does (get_or b.state.rows (slot k) (empty_row Free)) (cell_at b.pool (slot k)) (s.within k k< near) (length-cell w b.pool s.pool (slot k) (slot< k))

    row_gives : answers (in_row w rule b (number_at T k)).handed ≡ bundle? (newly (a.tracks k) t) k
    unfolding in_row
    row_gives = ap (λ o. answers (handed_of (Some (number_at T k)) o)) did.gives ∙ handed_is k (newly (a.tracks k) t)

    row_within : (j : ℕ) → j < a.bound → a.bound ≤ j + w → Stands after j (change a.tracks k t j)
    unfolding in_row
    row_within =
        change_elim (λ j t. j < a.bound → a.bound ≤ j + w → Stands after j t) a.tracks k t
        (λ j< nearj.
        rw (get_or-set_same b.state.rows (slot k) o.row (empty_row Free) (omega (arith, slot< k, s.rows)), cell-put w b.pool s.pool (slot k) (slot< k) o.cell did.sized) did.stands)
        (λ j ne j< nearj.
        let apart = other_row w win T j k (omega arith) (omega arith) ne in
        rw (get_or-set_other b.state.rows (slot k) (slot j) o.row (empty_row Free) apart, cell_other w b.pool s.pool (slot k) (slot< k) o.cell did.sized (slot j) (slot< j) apart)
        (s.within j j< nearj))

    in-row : Tied after (record { bound = a.bound; tracks = change a.tracks k t })
    unfolding in_row
    in-row = record {
      absent = s.absent;
      greatest = s.greatest;
      bounded = s.bounded;
      rows = rw (length-set b.state.rows (slot k) o.row) s.rows;
      pool = length-put-cell w b.pool s.pool (slot k) (slot< k) o.cell did.sized;
      new = change_elim (λ j t. a.bound ≤ j → t ≡ live []) a.tracks k t (λ h. absurd (omega arith)) (λ j ne h. s.new j h);
      within = row_within;
    }

  -- The window moves on to place k.
  module _ {b : Board} {a : Course} (s : Tied b a) (k : ℕ) (ahead : a.bound ≤ k) (k< : k < T.count) where
    freed : (d j : ℕ) → get_or (moved w b (number_at T k) d).state.rows (slot j) (empty_row Free) ≡ cond (enters w b.state.greatest d (slot j)) (empty_row Free) (get_or b.state.rows (slot j) (empty_row Free))
    unfolding moved
    freed d j = get_or_freed w 0 b.state.greatest d b.state.rows (slot j) (empty_row Free) (omega (arith, slot< j, s.rows)) ∙ rw (zero-add (slot j))

    moves : (d : ℕ) → ((j : ℕ) → a.bound ≤ j → j ≤ k → k < j + w → enters w b.state.greatest d (slot j) ≡ true)
        → ((j : ℕ) → j < a.bound → k < j + w → enters w b.state.greatest d (slot j) ≡ false)
        → Tied (moved w b (number_at T k) d) (record { bound = suc k; tracks = a.tracks })
    unfolding moved Represents
    moves d come stay = record {
      absent = λ e. absurd (omega arith);
      greatest = λ g e. (refl, ap (number_at T) (omega arith));
      bounded = k<;
      rows = rw (length_freed w 0 b.state.greatest d b.state.rows) s.rows;
      pool = s.pool;
      new = λ j h. s.new j (omega arith);
      within = λ j h near. stands j h near (bool (ltb j a.bound));
    }
      where
        stands : (j : ℕ) → j < suc k → suc k ≤ j + w → (ltb j a.bound ≡ true) ⊎ (ltb j a.bound ≡ false) → Stands (moved w b (number_at T k) d) j (a.tracks j)
        stands j h near (inl e) = rw (freed d j, stay j (ltb-true j a.bound e) near) (s.within j (ltb-true j a.bound e) (omega arith))
        stands j h near (inr e) =
            let n≤ = ltb-false j a.bound e in
            rw (freed d j, come j n≤ (omega arith) near, s.new j n≤) (holds-none (T.pieces j) (cell_at b.pool (slot j)) (length-cell w b.pool s.pool (slot j) (slot< j)))

    enters_window : (d : ℕ) × (standing_of w b.state.present b.state.greatest (number_at T k) ≡ New d) × Tied (moved w b (number_at T k) d) (record { bound = suc k; tracks = a.tracks })
    unfolding standing_of
    enters_window = go a.bound refl
      where
        go : (m : ℕ) → a.bound ≡ m → (d : ℕ) × (standing_of w b.state.present b.state.greatest (number_at T k) ≡ New d) × Tied (moved w b (number_at T k) d) (record { bound = suc k; tracks = a.tracks })
        go zero e = (w, rw (s.absent e), moves w (λ j x y z. all_enter w win b.state.greatest w (slot j) (slot< j) (omega arith)) (λ j x y. absurd (omega arith)))
        go (suc g) e =
            let at = (s.greatest g e).1 in (
              k - g,
              rw (at, (s.greatest g e).0) (standing-new w win T g k (omega arith) k<),
              moves (k - g) (λ j x y z. rw at (enters-new w win T g k j (omega arith) y z)) (λ j x y. rw at (enters-old w win T g k j (omega arith) (omega arith) y)),
            )

  module _ {b : Board} {a : Course} (s : Tied b a) (k : ℕ) where
    abbrev standing : Standing
    standing = standing_of w b.state.present b.state.greatest (number_at T k)

    stands_inside : k < a.bound → a.bound ≤ k + w → standing ≡ Inside
    unfolding standing_of
    stands_inside k< near = go a.bound refl
      where
        go : (m : ℕ) → a.bound ≡ m → standing ≡ Inside
        go zero e = absurd (omega arith)
        go (suc g) e = rw ((s.greatest g e).1, (s.greatest g e).0) (standing-in w win T g k (omega arith) (omega arith) (omega (arith, s.bounded)))

    stands_outside : k + w < a.bound → standing ≡ Outside
    unfolding standing_of
    stands_outside far = go a.bound refl
      where
        go : (m : ℕ) → a.bound ≡ m → standing ≡ Outside
        go zero e = absurd (omega arith)
        go (suc g) e = rw ((s.greatest g e).1, (s.greatest g e).0) (standing-out w win T g k (omega arith) (omega (arith, s.bounded)))

    -- A transfer message of place k does to the board what it does to the track of k.
    module _ (k< : k < T.count) (rule : Row → List ℕ → Rules.Outcome) (t : Track) (does : Does rule k (a.tracks k) t) where
      abbrev result : Outcome
      result = transfer w rule b (number_at T k)

      transfer_tied : Tied result.board (touch w a k t) × (answers result.handed ≡ bundle? (leb a.bound (k + w) && newly (a.tracks k) t) k)
      unfolding touch treat_transfer listed
      transfer_tied = go (bool (leb a.bound k)) (bool (leb a.bound (k + w)))
        where
          go : (leb a.bound k ≡ true) ⊎ (leb a.bound k ≡ false) → (leb a.bound (k + w) ≡ true) ⊎ (leb a.bound (k + w) ≡ false)
              → Tied result.board (touch w a k t) × (answers result.handed ≡ bundle? (leb a.bound (k + w) && newly (a.tracks k) t) k)
          go (inl e) (inl e') =
              let ahead = leb-true a.bound k e in
              let v = enters_window s k ahead k< in
              let m : max a.bound (suc k) ≡ suc k = omega arith in
              let p = window_size w win in
              rw (e', m, v.1) (in-row v.2 k (omega arith) (omega arith) rule t does, row_gives v.2 k (omega arith) (omega arith) rule t does)
          go (inl e) (inr e') = absurd (omega (arith, leb-true a.bound k e, leb-false a.bound (k + w) e'))
          go (inr e) (inl e') =
              let k<' = leb-false a.bound k e in
              let near = leb-true a.bound (k + w) e' in
              let m : max a.bound (suc k) ≡ a.bound = omega arith in
              rw (e', m, stands_inside k<' near) (in-row s k k<' near rule t does, row_gives s k k<' near rule t does)
          go (inr e) (inr e') = rw (e', stands_outside (leb-false a.bound (k + w) e')) (s, refl)

  -- ---- the messages of a record

  piece-steps : (b : Board) (k i : ℕ) → step w order b (piece_at T k i) ≡ transfer w (piece_step order (is_last (T.pieces k) i) i (get_or (T.pieces k) i [])) b (number_at T k)
  unfolding step piece_at
  piece-steps b k i = go (bool (is_last (T.pieces k) i))
    where
      go : (is_last (T.pieces k) i ≡ true) ⊎ (is_last (T.pieces k) i ≡ false) → step w order b (piece_at T k i) ≡ transfer w (piece_step order (is_last (T.pieces k) i) i (get_or (T.pieces k) i [])) b (number_at T k)
      go (inl e) = rw e
      go (inr e) = rw e

  step_tied : {b : Board} {a : Course} → Tied b a → (m : Message) → Honest T m → Tied (step w order b m).board (next order w T a m) × (answers (step w order b m).handed ≡ gives order w T a m)
  unfolding step event after_event hands_out handed_of listed
  step_tied s _ padding = (s, refl)
  step_tied s _ (whole c) = (s, refl)
  step_tied {b} {a} s _ (piece k i k< i<) =
      rw (piece-steps b k i, piece-event T k i k<)
      (transfer_tied s k k< (piece_step order (is_last (T.pieces k) i) i (get_or (T.pieces k) i [])) (grown order w T a k i)
      (λ r cell h c. piece-step (T.pieces k) order (T.short k k<) (T.fits k k<) i r cell (a.tracks k) h c i<))
  step_tied {b} {a} s _ (cancelled k k<) =
      let both = transfer_tied s k k< cancel_step (stop (a.tracks k)) (λ r cell h c. cancel-step (T.pieces k) order (T.short k k<) (T.fits k k<) r cell (a.tracks k) h c) in
      rw (place_of T k k<) (both.0, both.1 ∙ rw (stop_quiet (leb a.bound (k + w)) (a.tracks k)))

  pub run-tied : {b : Board} {a : Course} → Tied b a → (ms : List Message) → ((m : Message) → Memᴰ m ms → Honest T m)
      → Tied (board_after w order b ms) (course_after order w T a ms) × (map answered (handed_by w order b ms) ≡ given_by order w T a ms)
  unfolding board_after handed_by course_after given_by
  run-tied {b} {a} s [] v = (s, refl)
  run-tied {b} {a} s (m ∷ ms) v =
      let one = step_tied s m (v m (Memᴰ.head refl)) in
      let rest = run-tied {b = (step w order b m).board} {a = after_event order w T a (event T.first m)} one.0 ms (λ n h. v n (Memᴰ.tail h)) in
      (rest.0, map-append answered (listed (step w order b m).handed) (handed_by w order (step w order b m).board ms) ∙ rw (one.1, rest.1))

  pub fresh-tied : {v : Version} (b : Board) → Fresh v w b → Tied b begin
  unfolding begin fresh
  fresh-tied b f = record {
    absent = λ e. rw f.started;
    greatest = λ g e. absurd (omega arith);
    bounded = omega arith;
    rows = rw (f.started, length-replicate row_max (empty_row Free)) (window_range w win).1;
    pool = f.pooled;
    new = λ k h. refl;
    within = λ k h n. absurd (omega arith);
  }
