-- A board that takes a row of messages that carries bundles hands out exactly these, in order.
use mathlib.Core.Path.{◌≡◌, refl, sym, ap, ◌∙◌}
use mathlib.Core.Bool.{Bool, true, false, cond, false≢true}
use mathlib.Core.Logic.{◌⊎◌, inl, inr}
use mathlib.Core.Option.{Option, none, some}
use mathlib.Core.List.{List, [], ◌∷◌, ◌++◌, append_assoc, append-nil}
use Prim.Native.Nat.{ℕ, ◌+◌, ◌-◌, ◌*◌, ◌/◌, ◌%◌, ◌^◌, ◌<◌, ◌≤◌}
use native.Mathlib.Nat.{zero-add}
use native.Mathlib.Omega.{arith}
use lib.ListN.{length, get_or, length-set, length-replicate}
use lib.Seq.{get_or-set_same, get_or-set_other}
use borrow.Author.Tests.{eq-eqb, ne_eqb, le-leb, lt-leb}
use Rattle.std.proofs.Common.{Some}
use Rattle.wire.specs.declared.Version.{Version}
use Rattle.wire.specs.Message.{Message, skipped, bundle, cancel}
use Rattle.writing.specs.Written.{piece}
use Rattle.window.specs.declared.Standing.TheVariants.{Inside, New}
use Rattle.window.specs.Window.{Window, distance, standing, standing_of, row_of, enters}
use Rattle.window.proofs.Sizes.{window_range}
use Rattle.window.proofs.Entering.{row_below, all_enter, own-enters, next-enters}
use Rattle.pieces.specs.declared.Order.{Order}
use Rattle.row.specs.declared.Row.{Row}
use Rattle.row.specs.declared.Phase.TheVariants.{Free}
use Rattle.reassembly.specs.Rules as Rules
use Rattle.pieces.specs.Pieces.{bundle_max}
use Rattle.row.specs.Row.{empty_row}
use Rattle.reassembly.specs.Rules.{piece_step, cancel_step}
use Rattle.rows.specs.State.{row_max, fresh}
use Rattle.rows.specs.Message.{Board, Handed, Outcome, cell_at, handed_of, moved, in_row, treat_transfer, transfer, step}
use Rattle.rows.proofs.Rows.{length_freed, get_or_freed}
use Rattle.messages.proofs.Cells.{length-cell, length-put-cell}
use Rattle.receiver.proofs.Pool.{cell-put, cell_other}
use Rattle.rows.specs.Messages.{listed, board_after, handed_by}
use Rattle.claims.specs.Calls.{Fresh}
use Rattle.claims.proofs.Window.{window_size}
use Rattle.claims.proofs.Carries.{Begun, update, update-elim, Continued, Opening, Continuing, Ending, Carries, begin, pads, hands, opens, continues, ends, stops}
use Rattle.claims.proofs.Behind.{Behind, further, one_further, rows_apart, not-next, next-distance, behind_distance}

-- ---- rows of messages, one behind the other

module _ (w : ℕ) (order : Order) where
  board_append : (b : Board) (ms ns : List Message) → board_after w order b (ms ++ ns) ≡ board_after w order (board_after w order b ms) ns
  unfolding board_after
  board_append b [] ns = refl
  board_append b (m ∷ ms) ns = board_append (step w order b m).board ms ns

  pub handed_append : (b : Board) (ms ns : List Message) → handed_by w order b (ms ++ ns) ≡ handed_by w order b ms ++ handed_by w order (board_after w order b ms) ns
  unfolding handed_by board_after
  handed_append b [] ns = refl
  handed_append b (m ∷ ms) ns = rw (handed_append (step w order b m).board ms ns) (sym (append_assoc (listed (step w order b m).handed) _ _))

step-piece : (w : ℕ) (order : Order) (b : Board) (marked : Bool) (t i : ℕ) (x : List ℕ) → step w order b (piece marked t i x) ≡ transfer w (piece_step order marked i x) b t
unfolding step piece
step-piece w order b true t i x = refl
step-piece w order b false t i x = refl

-- ---- a board and the numbers begun

none-some : {A S : Type 0} {ps : S} → none ≡ some ps → A
none-some e = absurd (let z : ◌≡◌ {A = ℕ} 0 1 = cc in omega arith)

module _ {S : Type 0} (In : S → Row → List ℕ → Type 0) (order : Order) (w : ℕ) (win : Window w) where
  abbrev row_at : Board → ℕ → Row
  row_at b t = get_or b.state.rows (row_of w t) (empty_row Free)

  abbrev cell_of : Board → ℕ → List ℕ
  cell_of b t = cell_at b.pool (row_of w t)

  -- number t is begun, with the pieces ps so far; k is the next number
  record Going (b : Board) (k t : ℕ) (ps : S) : Type 0 where
    present : b.state.present ≡ true
    behind : Behind w k t
    row : In ps (row_at b t) (cell_of b t)

  record Tied (b : Board) (k : ℕ) (σ : Begun S) : Type 0 where
    small : k < 2 ^ 32
    greatest : b.state.present ≡ true → (b.state.greatest < 2 ^ 32) × ((b.state.greatest + 1) % 2 ^ 32 ≡ k)
    rows : w ≤ length b.state.rows
    pool : length b.pool ≡ w * bundle_max
    going : (t : ℕ) (ps : S) → σ t ≡ some ps → Going b k t ps

  full : {b : Board} {k : ℕ} {σ : Begun S} → Tied b k σ → (t : ℕ) → length (cell_of b t) ≡ bundle_max
  full {b} s t = length-cell w b.pool s.pool (row_of w t) (row_below w win t)

  -- A message for number t, inside the window.
  module _ {b : Board} {k : ℕ} {σ : Begun S} (s : Tied b k σ) (t : ℕ) (T : Behind w k t) (here : b.state.present ≡ true) (rule : Row → List ℕ → Rules.Outcome) where
    abbrev o : Rules.Outcome
    o = rule (row_at b t) (cell_of b t)

    in-row : length o.cell ≡ bundle_max → (v : Option S) → ((ps : S) → v ≡ some ps → In ps o.row o.cell) → Tied (in_row w rule b t).board k (update σ t v)
    unfolding in_row
    in-row sized v new =
        let r< = row_below w win t in
        record {
          small = s.small;
          greatest = s.greatest;
          rows = rw (length-set b.state.rows (row_of w t) o.row) s.rows;
          pool = length-put-cell w b.pool s.pool (row_of w t) r< o.cell sized;
          going = update-elim (λ u v. (ps : S) → v ≡ some ps → Going (in_row w rule b t).board k u ps) σ t v
              (λ ps e. record {
                present = here;
                behind = T;
                row = rw (get_or-set_same b.state.rows (row_of w t) o.row (empty_row Free) (omega (arith, r<, s.rows)), cell-put w b.pool s.pool (row_of w t) r< o.cell sized) (new ps e);
              })
              (λ u ne ps e.
              let G = s.going u ps e in
              let apart = rows_apart w win k t u s.small T G.behind ne in
              record {
                present = here;
                behind = G.behind;
                row = rw (get_or-set_other b.state.rows (row_of w t) (row_of w u) o.row (empty_row Free) apart, cell_other w b.pool s.pool (row_of w t) r< o.cell sized (row_of w u) (row_below w win u) apart) G.row;
              });
        }

  inside : {b : Board} {k : ℕ} {σ : Begun S} → Tied b k σ → (t : ℕ) (ps : S) → Going b k t ps → standing_of w b.state.present b.state.greatest t ≡ Inside
  unfolding standing_of standing
  inside {b} {k} s t ps G =
      let g = s.greatest G.present in
      let z = window_size w win in
      rw G.present (go (behind_distance w b.state.greatest k t z.1 g.0 g.1 G.behind))
    where
      d : ℕ
      d = distance b.state.greatest t

      go : (d ≡ 0) ⊎ (2 ^ 32 - w < d) → standing w d ≡ Inside
      go (inl e) = rw (eq-eqb d 0 e)
      go (inr h) = let z = window_size w win in rw (ne_eqb d 0 (omega arith), lt-leb d (2147483647 + w / 2) (omega arith), lt-leb d (2 ^ 32 - w) h)

  -- The window moves on to the next number.
  module _ {b : Board} {k : ℕ} {σ : Begun S} (s : Tied b k σ) (near : (t : ℕ) (ps : S) → σ t ≡ some ps → distance t k < w) where
    abbrev k' : ℕ
    k' = (k + 1) % 2 ^ 32

    own_behind : Behind w k' k
    own_behind = let z = window_size w win in let e = one_further k s.small in record { number = s.small; some = omega arith; most = omega arith }

    others_behind : (t : ℕ) (ps : S) → σ t ≡ some ps → Behind w k' t
    others_behind t ps e =
        let T = (s.going t ps e).behind in
        let n = near t ps e in
        let f = further w t k (window_size w win).1 T.number s.small n in
        record { number = T.number; some = omega arith; most = omega arith }

    freed : (d t : ℕ) → row_at (moved w b k d) t ≡ cond (enters w b.state.greatest d (row_of w t)) (empty_row Free) (row_at b t)
    unfolding moved
    freed d t = get_or_freed w 0 b.state.greatest d b.state.rows (row_of w t) (empty_row Free) (omega (arith, row_below w win t, s.rows)) ∙ rw (zero-add (row_of w t))

    record Moves : Type 0 where
      by : ℕ
      new : standing_of w b.state.present b.state.greatest k ≡ New by
      tied : Tied (moved w b k by) k' σ
      free : row_at (moved w b k by) k ≡ empty_row Free

    moves : (d : ℕ) → standing_of w b.state.present b.state.greatest k ≡ New d → enters w b.state.greatest d (row_of w k) ≡ true
        → ((t : ℕ) (ps : S) → σ t ≡ some ps → enters w b.state.greatest d (row_of w t) ≡ false) → Moves
    unfolding moved
    moves d e own others =
        record {
          by = d;
          new = e;
          tied = record {
            small = omega arith;
            greatest = λ _. (s.small, refl);
            rows = rw (length_freed w 0 b.state.greatest d b.state.rows) s.rows;
            pool = s.pool;
            going = λ t ps q. record { present = refl; behind = others_behind t ps q; row = rw (freed d t, others t ps q) (s.going t ps q).row };
          };
          free = freed d k ∙ rw own;
        }

    move : Moves
    unfolding standing_of standing
    move = go b.state.present refl
      where
        go : (p : Bool) → b.state.present ≡ p → Moves
        go true e =
            let g = s.greatest e in
            let one = next-distance b.state.greatest k g.0 g.1 in
            moves 1 (rw (e, one, le-leb 1 (2147483647 + w / 2) (omega arith))) (rw one at (own-enters w win b.state.greatest k g.0 s.small (omega arith)))
            (λ t ps q. next-enters w win b.state.greatest k g.0 s.small one (row_of w t) (row_below w win t)
            (rows_apart w win k' k t (omega arith) own_behind (others_behind t ps q) (not-next w k t (s.going t ps q).behind)))
        go false e = moves w (rw e) (all_enter w win b.state.greatest w (row_of w k) (row_below w win k) (omega arith)) (λ t ps q. absurd (false≢true (sym e ∙ (s.going t ps q).present)))

  -- ---- the messages of a row

  -- a message has brought the board to the next number k and to σ, and handed out hs
  record Does (o : Outcome) (k : ℕ) (σ : Begun S) (hs : List Handed) : Type 0 where
    tied : Tied o.board k σ
    hands : listed o.handed ≡ hs

  -- A message for a number that is begun.
  module _ {b : Board} {k : ℕ} {σ : Begun S} (s : Tied b k σ) (t : ℕ) (ps : S) (e : σ t ≡ some ps) where
    abbrev G : Going b k t ps
    G = s.going t ps e

    in_window : (rule : Row → List ℕ → Rules.Outcome) → transfer w rule b t ≡ in_row w rule b t
    unfolding treat_transfer
    in_window rule = rw (inside s t ps G)

    continue_does : (marked : Bool) (i : ℕ) (x : List ℕ) (q : S) → Continuing In order marked i x ps q → Does (step w order b (piece marked t i x)) k (update σ t (some q)) []
    unfolding in_row handed_of listed
    continue_does marked i x q h =
        let c = h (row_at b t) (cell_of b t) G.row (full s t) in
        let rule = piece_step order marked i x in
        rw (step-piece w order b marked t i x, in_window rule) record { tied = in-row s t G.behind G.present rule c.sized (some q) (λ qs e. let z : q ≡ qs = cc in rw z at c.row); hands = rw c.quiet }

    end_does : (marked : Bool) (i : ℕ) (x octets : List ℕ) → Ending In order marked i x ps octets
        → Does (step w order b (piece marked t i x)) k (update σ t none) (record { origin = Some t; octets = octets } ∷ [])
    unfolding in_row handed_of listed
    end_does marked i x octets h =
        let c = h (row_at b t) (cell_of b t) G.row (full s t) in
        let rule = piece_step order marked i x in
        rw (step-piece w order b marked t i x, in_window rule) record { tied = in-row s t G.behind G.present rule c.sized none (λ qs q. none-some q); hands = rw c.gives }

    stop_does : Does (step w order b (cancel t)) k (update σ t none) []
    unfolding step in_row handed_of listed cancel_step
    stop_does = rw (in_window cancel_step) record { tied = in-row s t G.behind G.present cancel_step (full s t) none (λ qs q. none-some q); hands = refl }

  open_does : {b : Board} {k : ℕ} {σ : Begun S} → Tied b k σ → ((t : ℕ) (ps : S) → σ t ≡ some ps → distance t k < w) → (marked : Bool) (i : ℕ) (x : List ℕ) (q : S)
      → Opening In order marked i x q → Does (step w order b (piece marked k i x)) ((k + 1) % 2 ^ 32) (update σ k (some q)) []
  unfolding in_row handed_of listed treat_transfer moved
  open_does {b} {k} s near marked i x q h =
      let m = move s near in
      let b' : Board = moved w b k m.by in
      let rule = piece_step order marked i x in
      let c : Continued (In q) (rule (row_at b' k) (cell_of b' k)) = rw m.free (h (cell_of b' k) (full m.tied k)) in
      rw (step-piece w order b marked k i x, m.new) record { tied = in-row m.tied k (own_behind s near) refl rule c.sized (some q) (λ qs e. let z : q ≡ qs = cc in rw z at c.row); hands = rw c.quiet }

  -- ---- a row of messages

  module _ (b : Board) where
    -- the messages so far have brought the board to k and σ, and handed out bs
    record Brings (k : ℕ) (σ : Begun S) (ms : List Message) (bs : List Handed) : Type 0 where
      tied : Tied (board_after w order b ms) k σ
      hands : handed_by w order b ms ≡ bs

    brings_next : {k k' : ℕ} {σ σ' : Begun S} {ms : List Message} {bs : List Handed} (m : Message) (hs : List Handed) → Brings k σ ms bs
        → (Tied (board_after w order b ms) k σ → Does (step w order (board_after w order b ms) m) k' σ' hs) → Brings k' σ' (ms ++ m ∷ []) (bs ++ hs)
    unfolding board_after handed_by
    brings_next {ms = ms} m hs B f =
        let d = f B.tied in
        record { tied = rw (board_append w order b ms (m ∷ [])) d.tied; hands = handed_append w order b ms (m ∷ []) ∙ rw (B.hands, d.hands, append-nil hs) }

    quiet_next : {k k' : ℕ} {σ σ' : Begun S} {ms : List Message} {bs : List Handed} (m : Message) → Brings k σ ms bs
        → (Tied (board_after w order b ms) k σ → Does (step w order (board_after w order b ms) m) k' σ' []) → Brings k' σ' (ms ++ m ∷ []) bs
    quiet_next {bs = bs} m B f = rw append-nil at (brings_next m [] B f)

    brings : {v : Version} → Fresh v w b → {first k : ℕ} {σ : Begun S} {ms : List Message} {bs : List Handed} → first < 2 ^ 32 → Carries In order w first k σ ms bs → Brings k σ ms bs
    unfolding board_after handed_by step handed_of listed fresh
    brings F h begin =
        record {
          tied = record {
            small = h;
            greatest = λ e. absurd (false≢true (ap (λ s. s.present) (sym F.started) ∙ e));
            rows = rw (F.started, length-replicate row_max (empty_row Free)) (window_range w win).1;
            pool = F.pooled;
            going = λ t ps e. none-some e;
          };
          hands = refl;
        }
    brings F h (pads c) = quiet_next skipped (brings F h c) (λ s. record { tied = s; hands = refl })
    brings F h (hands x c) = brings_next (bundle x) _ (brings F h c) (λ s. record { tied = s; hands = refl })
    brings F h (opens {k} marked i x q f near c) = quiet_next (piece marked k i x) (brings F h c) (λ s. open_does s near marked i x q f)
    brings F h (continues t ps marked i x q e f c) = quiet_next (piece marked t i x) (brings F h c) (λ s. continue_does s t ps e marked i x q f)
    brings F h (ends t ps marked i x octets e f c) = brings_next (piece marked t i x) _ (brings F h c) (λ s. end_does s t ps e marked i x octets f)
    brings F h (stops t ps e c) = quiet_next (cancel t) (brings F h c) (λ s. stop_does s t ps e)

    -- a fresh board that takes such messages hands out exactly their bundles, in order
    pub carried : {v : Version} → Fresh v w b → {first k : ℕ} {σ : Begun S} {ms : List Message} {bs : List Handed} → first < 2 ^ 32 → Carries In order w first k σ ms bs → handed_by w order b ms ≡ bs
    carried F h c = (brings F h c).hands
