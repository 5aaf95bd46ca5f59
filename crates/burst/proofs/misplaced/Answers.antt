-- `burst::misplaced` meets its contract.
use mathlib.Core.Path.{◌≡◌, refl, sym, ap, ◌∙◌}
use mathlib.Core.Bool.{false}
use mathlib.Core.List.{List}
use lib.Dec.{eqb}
use Rattle.wire.specs.declared.Fault.TheVariants.{ShortHeader, PastFrame, PastMessage, BadContent}
use Rattle.receiver.specs.declared.Refusal.{Refusal}
use Rattle.receiver.specs.declared.Refusal.TheVariants.{Unsound, BufferSize, FrameSize, Malformed, Misplaced}
use Prim.Native.Nat.{ℕ, ◌+◌, ◌≤◌, ◌<◌}
use native.Mathlib.Omega.{arith}
use lib.ListN.{length, get_or, take, drop}
use Rattle.rows.specs.Message.{draft}
use Rattle.octets.specs.Admission.{admission}
use Rattle.octets.proofs.Admitting.{denied, admitted}
use Rattle.receiver.specs.Receive.{refusal_number, unfit}
use Rattle.octets.specs.Octets.{sum_of}
use Rattle.burst.specs.Burst.{misplaced_in}
use Rattle.burst.proofs.Starts.{part, none-behind, frame_at, within}
use Rattle.burst.proofs.misplaced.Goals.{After-sum_of-start, After-admit_frame}
use Rattle.burst.proofs.misplaced.Goals as goal

-- the frame lies within the octets
module _ (c : After-sum_of-start) where
  below : c.args.frame < length c.args.frames.sizes.now
  below = omega (arith, c.requires.2, c.if-frame-frames.false)

  fits : c.sum_of-start.result + get_or c.args.frames.sizes.now c.args.frame 0 ≤ length c.args.frames.octets.now
  fits = let a = c.args in omega (arith, c.sum_of-start.ensures, within a.frame a.frames.sizes.now a.frames.octets.now below, c.requires.1)

pub returns-then-frame-frames : goal.returns-then-frame-frames
unfolding misplaced_in
returns-then-frame-frames c = let a = c.args in rw (none-behind a.frame a.frames.sizes.now a.frames.octets.now c.if-frame-frames.true)

pub overflow_add-end : goal.overflow_add-end
overflow_add-end c = omega (arith, fits (goal.at.overflow_add-end c).After-sum_of-start)

pub slice_bounds-admit_frame-end : goal.slice_bounds-admit_frame-end
slice_bounds-admit_frame-end c = omega (arith, fits (goal.at.slice_bounds-admit_frame-end c).After-sum_of-start)

-- no other refusal has the number 9
other : (r : Refusal) → (r ≡ Misplaced → ⊥) → false ≡ eqb (refusal_number r) 9
other Unsound n = refl
other BufferSize n = refl
other FrameSize n = refl
other (Malformed ShortHeader at) n = refl
other (Malformed PastFrame at) n = refl
other (Malformed PastMessage at) n = refl
other (Malformed BadContent at) n = refl
other Misplaced n = absurd (n refl)

-- the frame's refusal
asked : (c : After-admit_frame) → c.admit_frame.result ≡ admission (unfit (draft c.args.version) (take (get_or c.args.frames.sizes.now c.args.frame 0) (drop (sum_of (take c.args.frame c.args.frames.sizes.now)) c.args.frames.octets.now)) c.args.place)
asked c =
    let a = c.args in
    c.admit_frame.ensures
    ∙ ap (λ (f : List ℕ). admission (unfit (draft a.version) f a.place)) (part c.sum_of-start.result (sum_of (take a.frame a.frames.sizes.now)) (get_or a.frames.sizes.now a.frame 0) a.frames.octets.now c.sum_of-start.ensures)

pub returns-in-Ok : goal.returns-in-Ok
unfolding misplaced_in
returns-in-Ok c =
    let a = c.args in
    let g = goal.at.returns-in-Ok c in
    rw (frame_at a.frame a.frames.sizes.now a.frames.octets.now (below g.After-sum_of-start), admitted _ (sym (asked g.After-admit_frame) ∙ c.in-Ok.is))

pub returns-in-Misplaced : goal.returns-in-Misplaced
unfolding misplaced_in
returns-in-Misplaced c =
    let a = c.args in
    let g = goal.at.returns-in-Misplaced c in
    rw (frame_at a.frame a.frames.sizes.now a.frames.octets.now (below g.After-sum_of-start), denied _ _ (sym (asked g.After-admit_frame) ∙ c.in-Err.is), c.in-Misplaced.is)

pub returns-in_default : goal.returns-in_default
unfolding misplaced_in
returns-in_default c =
    let a = c.args in
    let g = goal.at.returns-in_default c in
    rw (frame_at a.frame a.frames.sizes.now a.frames.octets.now (below g.After-sum_of-start), denied _ _ (sym (asked g.After-admit_frame) ∙ c.in-Err.is)) (other _ c.in_default.not-Misplaced)
