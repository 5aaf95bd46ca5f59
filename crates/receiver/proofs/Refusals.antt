-- Refused calls change nothing, refusals come in document 01's order, and what a call that is not refused has.
use mathlib.Core.Bool.{Bool, true, false, not, ◌||◌}
use mathlib.Core.List.{List, [], ◌∷◌}
use mathlib.Core.Logic.{◌⊎◌, inl, inr}
use mathlib.Core.Option.{Option, none, some}
use mathlib.Core.Path.{◌≡◌, refl}
use Prim.Native.Nat.{ℕ, ◌*◌, ◌≤◌, ◌<◌}
use native.Mathlib.Omega.{arith}
use lib.Dec.{eqb, ltb}
use lib.ListN.{length}
use borrow.Author.Tests.{eqb-true, eqb-false, ltb-false, not-false}
use Rattle.std.proofs.Common.{Err, Ok, Result}
use Rattle.octets.proofs.Flags.{bool, neither, cond_elim}
use Rattle.octets.proofs.Cases.{first}
use Rattle.wire.specs.Frame.{checked, frame_max}
use Rattle.wire.specs.Message.{fault_number}
use Rattle.wire.specs.declared.Rejection.{Rejection}
use Rattle.wire.specs.declared.Rejection.TheVariants as Frame
use Rattle.wire.specs.declared.Fault.TheVariants.{ShortHeader, PastFrame, PastMessage, BadContent}
use Rattle.pieces.specs.Pieces.{bundle_max}
use Rattle.rows.specs.Message.{Draft, Board, messages_from}
use Rattle.receiver.specs.Receive.{refusal_number, number_of, frame_refusal, unfit, replied, refusal, treat, receive_as}
use Rattle.rows.specs.State.{sound}
use Rattle.receiver.specs.declared.Refusal.{Refusal}
use Rattle.receiver.specs.declared.Refusal.TheVariants.{Unsound, BufferSize, FrameSize, Malformed, Misplaced}

clash : {A : Type 0} → true ≡ false → A
clash e = absurd (let z : ◌≡◌ {A = ℕ} 0 1 = cc in omega arith)

-- what a frame that is not refused has
pub record Fit (D : Draft) (frame : List ℕ) (place : ℕ) : Type 0 where
  pub some : 0 < length frame
  pub small : length frame ≤ frame_max
  pub accepted : checked D.read frame place ≡ Ok (tt {0})

accepts : (c : Result (Unit {0}) Rejection) → frame_refusal c ≡ none → c ≡ Ok (tt {0})
unfolding frame_refusal
accepts (Ok u) e = refl
accepts (Err (Frame.Malformed f p)) e = absurd (let z : ◌≡◌ {A = ℕ} 0 1 = cc in omega arith)
accepts (Err Frame.Misplaced) e = absurd (let z : ◌≡◌ {A = ℕ} 0 1 = cc in omega arith)

never : {A : Type 0} {q : Refusal} → some q ≡ none → A
never e = absurd (let z : ◌≡◌ {A = ℕ} 0 1 = cc in omega arith)

pub fit : (D : Draft) (frame : List ℕ) (place : ℕ) → unfit D frame place ≡ none → Fit D frame place
fit D frame place e = go (bool (eqb (length frame) 0 || ltb frame_max (length frame)))
  where
    go : ((eqb (length frame) 0 || ltb frame_max (length frame)) ≡ true) ⊎ ((eqb (length frame) 0 || ltb frame_max (length frame)) ≡ false) → Fit D frame place
    go (inl z) = never (rw z at e)
    go (inr z) =
        let n = neither (eqb (length frame) 0) (ltb frame_max (length frame)) z in
        record { some = omega (arith, eqb-false (length frame) 0 n.0); small = ltb-false frame_max (length frame) n.1; accepted = accepts (checked D.read frame place) (rw z at e) }

module _ (D : Draft) (w : ℕ) (b : Board) (frame : List ℕ) (place : ℕ) (output : List ℕ) where
  -- a call that is refused gives back state, pool and output as they were
  pub refused : (q : Refusal) → refusal D w b frame place output ≡ some q → receive_as D w b frame place output ≡ record { answer = Err q; board = b; output = output }
  unfolding receive_as replied
  refused q e = rw e

  pub treated : refusal D w b frame place output ≡ none → receive_as D w b frame place output ≡ treat D w b (messages_from D frame place) output
  unfolding receive_as replied
  treated e = rw e

  -- what a call that is not refused has
  pub record Admits : Type 0 where
    pub state : sound b.state ≡ true
    pub pool : length b.pool ≡ w * bundle_max
    pub room : bundle_max ≤ length output
    pub frame-fit : Fit D frame place

  pub admits : refusal D w b frame place output ≡ none → Admits
  unfolding refusal
  admits e = go (bool (not (sound b.state))) (bool (not (eqb (length b.pool) (w * bundle_max)) || ltb (length output) bundle_max))
    where
      go : (not (sound b.state) ≡ true) ⊎ (not (sound b.state) ≡ false)
          → ((not (eqb (length b.pool) (w * bundle_max)) || ltb (length output) bundle_max) ≡ true) ⊎ ((not (eqb (length b.pool) (w * bundle_max)) || ltb (length output) bundle_max) ≡ false) → Admits
      go (inl x) y = never (rw x at e)
      go (inr x) (inl y) = never (rw (x, y) at e)
      go (inr x) (inr y) =
          let p = neither (not (eqb (length b.pool) (w * bundle_max))) (ltb (length output) bundle_max) y in
          record {
            state = not-false (sound b.state) x;
            pool = eqb-true (length b.pool) (w * bundle_max) (not-false (eqb (length b.pool) (w * bundle_max)) p.0);
            room = ltb-false (length output) bundle_max p.1;
            frame-fit = fit D frame place (rw (x, y) at e);
          }

-- ---- the order of the refusals

-- document 01's table: each number, and whether its case holds
abbrev is_fault : ℕ → Result (Unit {0}) Rejection → Bool
is_fault n (Ok u) = false
is_fault n (Err (Frame.Malformed fault at)) = eqb (fault_number fault) n
is_fault n (Err Frame.Misplaced) = false

abbrev is_misplaced : Result (Unit {0}) Rejection → Bool
is_misplaced (Ok u) = false
is_misplaced (Err (Frame.Malformed fault at)) = false
is_misplaced (Err Frame.Misplaced) = true

abbrev frame_cases : Result (Unit {0}) Rejection → List (ℕ × Bool)
frame_cases c = (4, is_fault 4 c) ∷ (6, is_fault 6 c) ∷ (7, is_fault 7 c) ∷ (8, is_fault 8 c) ∷ (9, is_misplaced c) ∷ []

-- 0 is no refusal's number
pub number-some : (q : Refusal) → 0 < refusal_number q
number-some Unsound = omega arith
number-some BufferSize = omega arith
number-some FrameSize = omega arith
number-some (Malformed ShortHeader at) = omega arith
number-some (Malformed PastFrame at) = omega arith
number-some (Malformed PastMessage at) = omega arith
number-some (Malformed BadContent at) = omega arith
number-some Misplaced = omega arith

-- 5 is never given
pub never_five : (q : Refusal) → refusal_number q ≡ 5 → ⊥
never_five Unsound e = omega arith
never_five BufferSize e = omega arith
never_five FrameSize e = omega arith
never_five (Malformed ShortHeader at) e = omega arith
never_five (Malformed PastFrame at) e = omega arith
never_five (Malformed PastMessage at) e = omega arith
never_five (Malformed BadContent at) e = omega arith
never_five Misplaced e = omega arith

-- a sound state is not refused with 1
abbrev NotOne : Option Refusal → Type 0
NotOne none = Unit {0}
NotOne (some q) = refusal_number q ≡ 1 → ⊥

frame-not-one : (c : Result (Unit {0}) Rejection) → NotOne (frame_refusal c)
unfolding frame_refusal
frame-not-one (Ok u) = tt
frame-not-one (Err (Frame.Malformed ShortHeader at)) = λ e. omega arith
frame-not-one (Err (Frame.Malformed PastFrame at)) = λ e. omega arith
frame-not-one (Err (Frame.Malformed PastMessage at)) = λ e. omega arith
frame-not-one (Err (Frame.Malformed BadContent at)) = λ e. omega arith
frame-not-one (Err Frame.Misplaced) = λ e. omega arith

pub sound-not-one : (D : Draft) (w : ℕ) (b : Board) (frame : List ℕ) (place : ℕ) (output : List ℕ) → sound b.state ≡ true
    → (q : Refusal) → refusal D w b frame place output ≡ some q → refusal_number q ≡ 1 → ⊥
unfolding refusal
sound-not-one D w b frame place output ok q e =
    let go : NotOne (refusal D w b frame place output) =
    rw ok
    (cond_elim NotOne (not (eqb (length b.pool) (w * bundle_max)) || ltb (length output) bundle_max) (λ _ e. omega arith)
    λ _. cond_elim NotOne (eqb (length frame) 0 || ltb frame_max (length frame)) (λ _ e. omega arith)
    λ _. frame-not-one (checked D.read frame place)) in
    rw e at go

frame_order : (c : Result (Unit {0}) Rejection) → number_of (frame_refusal c) ≡ first (frame_cases c)
unfolding first frame_refusal
frame_order (Ok u) = refl
frame_order (Err (Frame.Malformed ShortHeader at)) = refl
frame_order (Err (Frame.Malformed PastFrame at)) = refl
frame_order (Err (Frame.Malformed PastMessage at)) = refl
frame_order (Err (Frame.Malformed BadContent at)) = refl
frame_order (Err Frame.Misplaced) = refl

module _ (D : Draft) (w : ℕ) (b : Board) (frame : List ℕ) (place : ℕ) (output : List ℕ) where
  abbrev pub cases : List (ℕ × Bool)
  cases =
      (1, not (sound b.state))
      ∷ (2, not (eqb (length b.pool) (w * bundle_max)) || ltb (length output) bundle_max)
      ∷ (3, eqb (length frame) 0 || ltb frame_max (length frame))
      ∷ frame_cases (checked D.read frame place)

  -- the number given is the first of the table whose case holds
  pub in_order : number_of (refusal D w b frame place output) ≡ first cases
  unfolding refusal first
  in_order = go (bool (not (sound b.state))) (bool (not (eqb (length b.pool) (w * bundle_max)) || ltb (length output) bundle_max)) (bool (eqb (length frame) 0 || ltb frame_max (length frame)))
    where
      go : (not (sound b.state) ≡ true) ⊎ (not (sound b.state) ≡ false)
          → ((not (eqb (length b.pool) (w * bundle_max)) || ltb (length output) bundle_max) ≡ true) ⊎ ((not (eqb (length b.pool) (w * bundle_max)) || ltb (length output) bundle_max) ≡ false)
          → ((eqb (length frame) 0 || ltb frame_max (length frame)) ≡ true) ⊎ ((eqb (length frame) 0 || ltb frame_max (length frame)) ≡ false) → number_of (refusal D w b frame place output) ≡ first cases
      go (inl x) y z = rw x
      go (inr x) (inl y) z = rw (x, y)
      go (inr x) (inr y) (inl z) = rw (x, y, z)
      go (inr x) (inr y) (inr z) = rw (x, y, z) (frame_order (checked D.read frame place))
