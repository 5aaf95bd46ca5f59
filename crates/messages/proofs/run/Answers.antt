use mathlib.Core.Bool.{false}
use mathlib.Core.List.{List, []}
use mathlib.Core.Path.{◌≡◌, sym, ap, ◌∙◌}
use Prim.Native.Nat.{◌+◌, ◌≤◌, ℕ, ◌-◌, ◌^◌, ◌<◌}
use native.Mathlib.Omega.{arith}
use lib.ListN.{get_or, set, length}
use Rattle.std.proofs.Common.{None}
use Rattle.window.proofs.Sizes.{is_window_lem, window_range}
use Rattle.pieces.specs.declared.Order.{Order}
use Rattle.pieces.specs.Pieces.{bundle_max}
use Rattle.row.specs.Row.{empty_row}
use Rattle.row.specs.declared.Phase.TheVariants.{Free}
use Rattle.row.specs.declared.Row.{Row}
use Rattle.row.proofs.Shaped.{Shaped}
use Rattle.reassembly.specs.Delivery.{Delivery}
use Rattle.rows.specs.Message.{order_of}
use Rattle.rows.specs.Origin.{Origin}
use Rattle.rows.specs.declared.State.{State}
use Rattle.rows.specs.declared.Visit.{Visit}
use Rattle.rows.proofs.Rows.{get_or_any, sound-window}
use Rattle.messages.specs.Run.{progressed, size, Run, going}
use Rattle.messages.specs.declared.Progress.{Progress}
use Rattle.messages.proofs.Looping.{progressed-next, begins, ends, never_bad, passed, turned, v, at<, treated<, count<, room, place, slot<, fits, admit, found-sound, handed-fits, win, Turn}
use Rattle.messages.proofs.Cells.{cell-within}
use Rattle.messages.proofs.Visits.{visited, rows_for, rows-for-full, cleared, cleared-some, cleared-none, opened, opened_some, opened-none}
use borrow.Author.Rules.{rules}
use Rattle.messages.specs.declared.Limits.{Limits}
use Rattle.messages.proofs.run.Goals as goal
use Rattle.messages.proofs.run.Goals.{In-Ok, Joined-v-gt1, Joined-v-gt0, After-cell_turn-t, then-v-gt1, else-v-gt1, then-v-gt0, else-v-gt0}

-- ---- a turn: the message that is read

module _ (c : In-Ok) where
  abbrev first : Run
  first = let a = c.args in going a.state.now a.pool.now a.output.now a.lengths.now a.numbers.now a.from

  abbrev now : Run
  now = let l = c.loop-limits in going l.state l.pool l.output l.lengths l.numbers l.progress

  abbrev turn : Turn c.args.limits c.args.frame.now first now
  turn = record {
    going = c.loop-limits.invariant;
    test = sym c.more.ensures ∙ c.loop-limits-test.true;
    span = c.in-Ok.m;
    told = sym c.read_message.ensures ∙ c.in-Ok.is;
  }

  small : length c.args.frame.now ≤ bundle_max
  small = omega (arith, c.requires.1)

  limits : (c.args.limits.messages < 2 ^ 64) × (c.args.limits.bundles < 2 ^ 64) × (length c.args.output.now < 2 ^ 64)
  limits = search rules

  counted : now.progress.treated + 1 < 2 ^ 64
  counted = omega (arith, treated< turn, limits.0)

  delivered : (d : Delivery) → size d ≤ bundle_max → (now.progress.treated + 1 < 2 ^ 64) × (now.progress.count + 1 < 2 ^ 64) × (now.progress.used + size d < 2 ^ 64)
  delivered d s = (counted, omega (arith, count< turn, limits.1), omega (arith, s, room turn, c.loop-limits.invariant.output, limits.2))

  later : (q : Progress) (d : Delivery) (origin : Origin) → q ≡ progressed now.progress d c.in-Ok.m.end origin → length c.args.frame.now - q.next < length c.args.frame.now - now.progress.next
  later q d origin e =
      let n : q.next ≡ c.in-Ok.m.end = ap (λ (y : Progress). y.next) e ∙ progressed-next now.progress d c.in-Ok.m.end origin in
      rw n (omega (arith, (place turn).later, at< turn))

-- ---- the row that the message finds

module _ {limits : Limits} {frame : List ℕ} {p₀ p : Run} (t : Turn limits frame p₀ p) (x : Visit) (e : x ≡ v t) where
  abbrev w : ℕ
  w = p₀.board.state.settings.window

  abbrev order : Order
  order = order_of p₀.board.state.settings.version

  slot-in : x.slot < w
  slot-in = omega (arith, ap (λ (y : Visit). y.slot) e, slot< t)

  slot-below : x.slot < 16
  slot-below = omega (arith, slot-in, (window_range _ (win t)).1)

  module _ (rows : List Row) (er : rows ≡ rows_for w order p.board x) (d : Row) where
    row-found : get_or rows x.slot d ≡ get_or rows x.slot (empty_row Free)
    row-found =
        let wide : w ≤ length p.board.state.rows = t.going.ready.rows in
        get_or_any rows x.slot d (empty_row Free) (omega (arith, slot-in, wide, ap length er, rows-for-full w (win t) order p.board t.going.ready x))

    row_is : get_or rows x.slot d ≡ visited w order p.board (v t)
    row_is = row-found ∙ ap (λ (rs : List Row). get_or rs x.slot (empty_row Free)) er ∙ ap (visited w order p.board) e

-- a state with other rows, and one that a visit moves
abbrev with_rows : State → List Row → State
with_rows s rows = record { present = s.present; greatest = s.greatest; rows = rows; settings = s.settings }

abbrev moved : State → Visit → List Row → State
moved s x rows = record { present = x.present; greatest = x.greatest; rows = rows; settings = s.settings }

joined2 : (c : Joined-v-gt1) → let s = c.loop-limits.state in
    c.if-v-gt1.state ≡ with_rows s (cleared c.args.state.now.settings.window s.greatest c.visit_of-v.result.entered s.rows)
joined2 c =
    let s = c.loop-limits.state in
    let d = c.visit_of-v.result.entered in
    let n = c.args.state.now.settings.window in
    elim c.if-v-gt1.branch [
      | then-v-gt1 w ↦ w.state-is ∙ ap (with_rows s) (w.freed-state.ensures ∙ cleared-some n s.greatest d s.rows w.if-v-gt1.true)
      | else-v-gt1 w ↦ w.state-is ∙ ap (with_rows s) (cleared-none n s.greatest d s.rows w.if-v-gt1.false)
    ]

joined3 : (c : Joined-v-gt0) → let s = c.loop-limits.state in let t = c.args.state.now.settings in let x = c.visit_of-v.result in
    c.if-v-gt1.state ≡ with_rows s (cleared t.window s.greatest x.entered s.rows)
    → c.if-v-gt0.state ≡ moved s x (rows_for t.window (order_of t.version) (record { state = s; pool = c.loop-limits.pool }) x)
joined3 c e =
    let s = c.loop-limits.state in
    let rows = c.if-v-gt1.state.rows in
    let x = c.visit_of-v.result in
    let at_last : moved c.if-v-gt1.state x (opened x.slot x.entered rows) ≡ moved s x (opened x.slot x.entered (cleared c.args.state.now.settings.window s.greatest x.entered s.rows)) =
    ap (λ (y : State). moved y x (opened x.slot x.entered y.rows)) e in
    elim c.if-v-gt0.branch [
      | then-v-gt0 w ↦ w.state-is ∙ ap (moved c.if-v-gt1.state x) (ap (set rows x.slot) w.empty_row.ensures ∙ opened_some x.slot x.entered rows w.if-v-gt0.true) ∙ at_last
      | else-v-gt0 w ↦ w.state-is ∙ ap (moved c.if-v-gt1.state x) (opened-none x.slot x.entered rows w.if-v-gt0.false) ∙ at_last
    ]

abbrev vacant : Row
vacant = record { phase = Free; known = false; last = 0; held = 0; indexes = []; lengths = [] }

-- ---- the needs

pub loop-limits-init : goal.loop-limits-init
loop-limits-init c =
    let range = window_range _ (sound-window c.args.state.now c.requires.0.sound) in
    begins c.args.limits c.args.frame.now _ c.requires.0 c.requires.2 (omega (arith, range, c.typed.ensures.0)) c.typed.ensures.1

pub progressed-progress-requires : goal.progressed-progress-requires
progressed-progress-requires c = delivered (goal.at.progressed-progress-requires c).In-Ok None (omega arith)

pub loop-limits-smaller-in-Skipped : goal.loop-limits-smaller-in-Skipped
loop-limits-smaller-in-Skipped c = later (goal.at.loop-limits-smaller-in-Skipped c).In-Ok c.progressed-progress.result None None c.progressed-progress.ensures

pub loop-limits-preserved-in-Skipped : goal.loop-limits-preserved-in-Skipped
loop-limits-preserved-in-Skipped c = rw c.progressed-progress.ensures (passed (turn (goal.at.loop-limits-preserved-in-Skipped c).In-Ok) c.in-Skipped.is)

pub slice_bounds-content-count : goal.slice_bounds-content-count
slice_bounds-content-count c = (place (turn (goal.at.slice_bounds-content-count c).In-Ok)).ordered

pub slice_bounds-content-start : goal.slice_bounds-content-start
slice_bounds-content-start c = let l = place (turn (goal.at.slice_bounds-content-start c).In-Ok) in omega (arith, l.ordered, l.within)

pub slice_bounds-content-end : goal.slice_bounds-content-end
slice_bounds-content-end c = let l = place (turn (goal.at.slice_bounds-content-end c).In-Ok) in omega (arith, l.ordered, l.within)

pub visit_of-v-requires : goal.visit_of-v-requires
visit_of-v-requires c = let t = turn (goal.at.visit_of-v-requires c).In-Ok in (is_window_lem _ (win t), fits t)

pub freed-state-requires : goal.freed-state-requires
freed-state-requires c = is_window_lem _ (win (turn (goal.at.freed-state-requires c).In-Ok))

pub offset_bounds-state-slot : goal.offset_bounds-state-slot
offset_bounds-state-slot c = omega (arith, slot-below (turn (goal.at.offset_bounds-state-slot c).In-Ok) _ c.visit_of-v.ensures)

pub bounds-state-slot : goal.bounds-state-slot
bounds-state-slot c = slot-below (turn (goal.at.bounds-state-slot c).In-Ok) _ c.visit_of-v.ensures

pub offset_bounds-state-slot-in-loop-limits : goal.offset_bounds-state-slot-in-loop-limits
offset_bounds-state-slot-in-loop-limits c = omega (arith, slot-below (turn (goal.at.offset_bounds-state-slot-in-loop-limits c).In-Ok) _ c.visit_of-v.ensures)

pub bounds-state-slot-in-loop-limits : goal.bounds-state-slot-in-loop-limits
bounds-state-slot-in-loop-limits c = slot-below (turn (goal.at.bounds-state-slot-in-loop-limits c).In-Ok) _ c.visit_of-v.ensures

pub invariant_of-sound : goal.invariant_of-sound
invariant_of-sound c =
    let g = goal.at.invariant_of-sound c in
    let t = turn g.In-Ok in
    let e = c.visit_of-v.ensures in
    let er = ap (λ (s : State). s.rows) (joined3 g.Joined-v-gt0 (joined2 g.Joined-v-gt1)) in
    record { sound = rw (row_is t _ e c.if-v-gt0.state.rows er vacant) (found-sound t) }

pub cell_turn-t-requires : goal.cell_turn-t-requires
cell_turn-t-requires c =
    let h = (goal.at.cell_turn-t-requires c).In-Ok in
    let t = turn h in
    let e = c.visit_of-v.ensures in
    (rw e (admit t (small h)), cell-within c.args.state.now.settings.window c.loop-limits.pool c.loop-limits.invariant.ready.pool c.visit_of-v.result.slot (slot-in t _ e), room t)

-- the row has 64 entries, and what it hands out is no longer than a bundle
shaped : (c : After-cell_turn-t) → Shaped (get_or c.if-v-gt0.state.rows c.visit_of-v.result.slot vacant)
shaped c = record { indexes64 = c.cell_turn-t.ensures.1; lengths64 = c.cell_turn-t.ensures.2 }

pub list_bundle-requires : goal.list_bundle-requires
list_bundle-requires c =
    let h = (goal.at.list_bundle-requires c).In-Ok in
    let t = turn h in
    let e = c.visit_of-v.ensures in
    let es = joined3 (goal.at.list_bundle-requires c).Joined-v-gt0 (joined2 (goal.at.list_bundle-requires c).Joined-v-gt1) in
    let er = ap (λ (s : State). s.rows) es in
    handed-fits t (small h) c.visit_of-v.result e _ (row_is t _ e c.if-v-gt0.state.rows er vacant) (shaped (goal.at.list_bundle-requires c).After-cell_turn-t) c.cell_turn-t.result _ _ c.cell_turn-t.ensures.0

pub progressed-progress-requires-in-loop-limits : goal.progressed-progress-requires-in-loop-limits
progressed-progress-requires-in-loop-limits c =
    let g = goal.at.progressed-progress-requires-in-loop-limits c in
    let h = g.In-Ok in
    let t = turn h in
    let e = c.visit_of-v.ensures in
    let es = joined3 g.Joined-v-gt0 (joined2 g.Joined-v-gt1) in
    let er = ap (λ (s : State). s.rows) es in
    delivered h c.cell_turn-t.result.delivery
    (handed-fits t (small h) c.visit_of-v.result e _ (row_is t _ e c.if-v-gt0.state.rows er vacant) (shaped g.After-cell_turn-t) c.cell_turn-t.result _ _ c.cell_turn-t.ensures.0)

pub loop-limits-smaller : goal.loop-limits-smaller
loop-limits-smaller c =
    later (goal.at.loop-limits-smaller c).In-Ok c.progressed-progress-in-loop-limits.result c.cell_turn-t.result.delivery c.visit_of-v.result.origin c.progressed-progress-in-loop-limits.ensures

pub loop-limits-preserved : goal.loop-limits-preserved
loop-limits-preserved c =
    let g = goal.at.loop-limits-preserved c in
    let h = g.In-Ok in
    let t = turn h in
    let e = c.visit_of-v.ensures in
    let es = joined3 g.Joined-v-gt0 (joined2 g.Joined-v-gt1) in
    let er = ap (λ (s : State). s.rows) es in
    let low : c.visit_of-v.result.greatest < 2 ^ 32 = search rules in
    rw (ap (λ (s : State). s.present) es, ap (λ (s : State). s.greatest) es, ap (λ (s : State). s.settings) es)
    (turned t (small h) c.visit_of-v.result e c.if-v-gt0.state.rows er _ (row-found t _ e c.if-v-gt0.state.rows er vacant) (shaped g.After-cell_turn-t) low
    c.cell_turn-t.result _ _ c.cell_turn-t.ensures.0 _ c.list_bundle.ensures.0 _ c.list_bundle.ensures.1 c.progressed-progress-in-loop-limits.result c.progressed-progress-in-loop-limits.ensures)

-- the loop is left where its test fails; no message is bad
pub returns-after-loop-limits : goal.returns-after-loop-limits
returns-after-loop-limits c =
    let g = c.loop-limits.invariant in
    (ends g (sym c.more.ensures ∙ c.loop-limits-test.false), record { sound = g.ready.sound; pooled = rw g.ready.window g.ready.pool; used = omega (arith, g.used, g.output) })

pub returns-in_default : goal.returns-in_default
returns-in_default c = never_bad c.loop-limits.invariant (sym c.more.ensures ∙ c.loop-limits-test.true) _ (sym c.read_message.ensures ∙ c.in_default.is)
