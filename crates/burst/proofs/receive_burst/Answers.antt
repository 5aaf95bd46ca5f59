-- `burst::receive_burst` meets its contract.
use mathlib.Core.Option.{Option, none}
use mathlib.Core.Path.{◌≡◌, sym, ap, ◌∙◌}
use Prim.Native.Nat.{ℕ, ◌≤◌}
use native.Mathlib.Omega.{arith}
use lib.ListN.{length, length-take}
use Rattle.std.proofs.lemmas.Result.{err_from_is_err_and}
use Rattle.rows.specs.State.{window_of}
use Rattle.rows.specs.Message.{draft_of, Board}
use Rattle.messages.specs.Run.{going, begun}
use Rattle.frames.specs.Frames.{set_out, through}
use Rattle.burst.specs.declared.Refusal.{Refusal}
use Rattle.burst.specs.Burst.{Lists, lists, taken, refusal, limits}
use Rattle.burst.proofs.Starts.{sum-split, frames-parts, parts_fit, parts-few}
use Rattle.octets.proofs.Admitting.{denied, admitted}
use Rattle.burst.proofs.Refusals.{refused, treated, Admits, admits}
use Rattle.octets.specs.Octets.{sum_of}
use Rattle.rows.specs.declared.State.{State}
use mathlib.Core.List.{List}
use Rattle.burst.proofs.receive_burst.Goals as goal
use Rattle.burst.proofs.receive_burst.Goals.{In_ok-admit, After-sum_of-start}

module _ (s : State) (pool : List ℕ) where
  abbrev board : Board
  board = record { state = s; pool = pool }

  abbrev asked : List ℕ → List ℕ → ℕ → ℕ → List ℕ → Option Refusal
  asked sizes joined frame place output = refusal (draft_of s) (window_of s) board sizes joined frame place output

  -- a burst that is not refused
  abbrev Taken : List ℕ → List ℕ → ℕ → ℕ → Lists → Type 0
  Taken sizes joined frame place lent = Admits (draft_of s) (window_of s) board sizes joined frame place lent

module _ (c : In_ok-admit) where
  none-applies : (let a = c.args in asked a.state.now a.pool.now a.sizes.now a.joined.now a.frame a.place a.output.now) ≡ none
  none-applies = let a = c.args in admitted (asked a.state.now a.pool.now a.sizes.now a.joined.now a.frame a.place a.output.now) (sym c.admit.ensures ∙ c.in_ok-admit.was)

  admitting : let a = c.args in Taken a.state.now a.pool.now a.sizes.now a.joined.now a.frame a.place (lists a.output.now a.lengths.now a.numbers.now a.places.now a.reasons.now)
  admitting =
      let a = c.args in
      admits (draft_of a.state.now) (window_of a.state.now) (board a.state.now a.pool.now) a.sizes.now a.joined.now a.frame a.place (lists a.output.now a.lengths.now a.numbers.now a.places.now a.reasons.now) none-applies

-- its first frame starts within the octets
within : (c : After-sum_of-start) → length c.args.joined.now ≡ sum_of c.args.sizes.now → c.sum_of-start.result ≤ length c.args.joined.now
within c even = omega (arith, c.sum_of-start.ensures, even, sum-split c.args.frame c.args.sizes.now)

pub returns-in_err-admit : goal.returns-in_err-admit
returns-in_err-admit c =
    let a = c.args in
    let p = err_from_is_err_and c.from_residual.result c.from_residual.ensures.1 in
    rw (p.1, p.2)
    (sym (refused (draft_of a.state.now) (window_of a.state.now) (board a.state.now a.pool.now) a.sizes.now a.joined.now a.frame a.place (lists a.output.now a.lengths.now a.numbers.now a.places.now a.reasons.now) _
    (denied (asked a.state.now a.pool.now a.sizes.now a.joined.now a.frame a.place a.output.now) _ (sym c.admit.ensures ∙ c.in_err-admit.was))))

pub slice_bounds-sum_of-end : goal.slice_bounds-sum_of-end
slice_bounds-sum_of-end c = let A = admitting (goal.at.slice_bounds-sum_of-end c).In_ok-admit in simp length-take (omega (arith, A.below))

pub sum_of-start-requires : goal.sum_of-start-requires
sum_of-start-requires c = let A = admitting (goal.at.sum_of-start-requires c).In_ok-admit in simp length-take (omega (arith, A.below, A.few))

pub offset_bounds-sizes-frame : goal.offset_bounds-sizes-frame
offset_bounds-sizes-frame c = let A = admitting (goal.at.offset_bounds-sizes-frame c).In_ok-admit in record { fits = omega (arith, A.below, A.few) }

pub slice_bounds-run_frames-count : goal.slice_bounds-run_frames-count
slice_bounds-run_frames-count c = omega (arith, (admitting (goal.at.slice_bounds-run_frames-count c).In_ok-admit).below)

pub slice_bounds-run_frames-start : goal.slice_bounds-run_frames-start
slice_bounds-run_frames-start c = omega (arith, (admitting (goal.at.slice_bounds-run_frames-start c).In_ok-admit).below)

pub slice_bounds-run_frames-count-2 : goal.slice_bounds-run_frames-count-2
slice_bounds-run_frames-count-2 c =
    let g = goal.at.slice_bounds-run_frames-count-2 c in omega (arith, within g.After-sum_of-start (admitting g.In_ok-admit).even)

pub slice_bounds-run_frames-start-2 : goal.slice_bounds-run_frames-start-2
slice_bounds-run_frames-start-2 c =
    let g = goal.at.slice_bounds-run_frames-start-2 c in omega (arith, within g.After-sum_of-start (admitting g.In_ok-admit).even)

pub overflow_cast-frame : goal.overflow_cast-frame
overflow_cast-frame c = let A = admitting (goal.at.overflow_cast-frame c).In_ok-admit in omega (arith, A.below, A.few)

pub run_frames-r-requires : goal.run_frames-r-requires
run_frames-r-requires c =
    let A = admitting (goal.at.run_frames-r-requires c).In_ok-admit in
    rw c.begun.ensures
    (record { sound = A.state; pooled = A.pool; used = omega arith }, parts_fit c.args.frame c.sum_of-start.result c.args.sizes.now c.args.joined.now c.sum_of-start.ensures A.even, omega (arith, parts-few c.args.frame c.args.sizes.now, A.below, A.few))

pub returns : goal.returns
returns c =
    let a = c.args in
    let D = draft_of a.state.now in
    let w = window_of a.state.now in
    let lent = lists a.output.now a.lengths.now a.numbers.now a.places.now a.reasons.now in
    let same = frames-parts a.frame c.sum_of-start.result a.sizes.now a.joined.now c.sum_of-start.ensures in
    ap taken (rw c.begun.ensures at c.run_frames-r.ensures
    ∙ ap (through D w limits (set_out (going a.state.now a.pool.now a.output.now a.lengths.now a.numbers.now (begun a.place)) a.places.now a.reasons.now a.frame)) same)
    ∙ sym (treated D w (board a.state.now a.pool.now) a.sizes.now a.joined.now a.frame a.place lent (none-applies (goal.at.returns c).In_ok-admit))
