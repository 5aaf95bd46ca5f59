-- The loop over frames: what it keeps.
use mathlib.Core.Bool.{Bool, true, false, ◌&&◌}
use mathlib.Core.List.{List, [], ◌∷◌}
use mathlib.Core.Logic.{◌⊎◌, inl, inr}
use mathlib.Core.Option.{Option, none, some}
use mathlib.Core.Path.{◌≡◌, refl, sym, ap, subst, ◌∙◌}
use Prim.Native.Nat.{ℕ, ◌+◌, ◌-◌, ◌≤◌, ◌<◌}
use native.Mathlib.Numerals.{add-one}
use native.Mathlib.Omega.{arith}
use lib.Dec.{ltb}
use lib.ListN.{length, get_or, take, drop, length-set, length-drop, drop_of_length-le}
use lib.Seq.{drop-cons, drop-drop, length-take-le}
use borrow.Author.Tests.{lt-ltb, le-ltb, ltb-true, ltb-false}
use Rattle.octets.specs.Octets.{sum_of}
use Rattle.octets.proofs.Flags.{bool, both}
use Rattle.rows.specs.State.{window_of}
use Rattle.rows.specs.declared.Settings.{Settings}
use Rattle.rows.specs.Message.{Draft, draft, draft_of, messages_from}
use Rattle.rows.proofs.Keeping.{settings_of}
use Rattle.messages.specs.declared.Limits.{Limits}
use Rattle.messages.specs.Run.{Run, roomy, run, run_from, Able}
use Rattle.messages.proofs.Keeping.{run-keeps}
use Rattle.receiver.specs.declared.Refusal.{Refusal}
use Rattle.receiver.specs.Receive.{number_of, unfit}
use Rattle.receiver.proofs.Refusals.{number-some, Fit, fit}
use Rattle.frames.specs.Frames.{frames_of, Reach, noted, passed, within, through}

unrefused : (q : Option Refusal) → number_of q ≤ 0 → q ≡ none
unrefused none le = refl
unrefused (some q) le = absurd (omega (arith, number-some q))

abbrev able_in : Run → Type 0
able_in r = Able r.board.state r.board.pool r.output r.progress

-- lent memory keeps its lengths
pub record Keeps (r₀ r : Run) : Type 0 where
  pub pool : length r.board.pool ≡ length r₀.board.pool
  pub output : length r.output ≡ length r₀.output
  pub lengths : length r.lengths ≡ length r₀.lengths
  pub numbers : length r.numbers ≡ length r₀.numbers

-- the draft that the frames are taken by
abbrev pub draft_at : Reach → Draft
draft_at r = draft_of r.run.board.state

-- and the window
abbrev pub width_at : Reach → ℕ
width_at r = window_of r.run.board.state

-- r is how far the frames before frame k came, which starts at an octet
pub record Passing (limits : Limits) (sizes octets : List ℕ) (r₀ : Reach) (k at : ℕ) (r : Reach) : Type 0 where
  pub same : through (draft_at r₀) (width_at r₀) limits r₀ (frames_of sizes octets) ≡ through (draft_at r₀) (width_at r₀) limits r (frames_of (drop k sizes) (drop at octets))
  pub set : settings_of r.run.board ≡ settings_of r₀.run.board
  pub able : able_in r.run
  pub some : k ≤ length sizes
  pub room : at + sum_of (drop k sizes) ≤ length octets
  pub frame : r.frame ≡ r₀.frame + k
  pub few : r.refused ≤ k
  pub kept : Keeps r₀.run r.run
  pub places : length r.places ≡ length r₀.places
  pub reasons : length r.reasons ≡ length r₀.reasons

-- whether a further frame is looked at
abbrev pub goes_on : Limits → List ℕ → ℕ → Reach → Bool
goes_on limits sizes k r = ltb k (length sizes) && roomy r.run.progress limits (length r.run.output)

pub begins : (limits : Limits) (sizes octets : List ℕ) (r : Reach) → able_in r.run → sum_of sizes ≤ length octets → r.refused ≡ 0 → Passing limits sizes octets r 0 0 r
begins limits sizes octets r A room zero = record {
  same = refl;
  set = refl;
  able = A;
  some = omega arith;
  room = omega arith;
  frame = omega arith;
  few = omega arith;
  kept = record { pool = refl; output = refl; lengths = refl; numbers = refl };
  places = refl;
  reasons = refl;
}

module _ {limits : Limits} {sizes octets : List ℕ} {r₀ : Reach} {k at : ℕ} {r : Reach} (P : Passing limits sizes octets r₀ k at r) where
  -- the loop ends: no frame is left, or a limit is reached
  pub ends : goes_on limits sizes k r ≡ false → r ≡ through (draft_at r₀) (width_at r₀) limits r₀ (frames_of sizes octets)
  unfolding through frames_of
  ends test = sym (P.same ∙ go (bool (ltb k (length sizes))))
    where
      stops : (fs : List (List ℕ)) → roomy r.run.progress limits (length r.run.output) ≡ false → through (draft_at r₀) (width_at r₀) limits r fs ≡ r
      stops [] e = refl
      stops (f ∷ fs) e = rw e

      go : (ltb k (length sizes) ≡ true) ⊎ (ltb k (length sizes) ≡ false) → through (draft_at r₀) (width_at r₀) limits r (frames_of (drop k sizes) (drop at octets)) ≡ r
      go (inl e) = stops (frames_of (drop k sizes) (drop at octets)) (rw e at test)
      go (inr e) = rw (drop_of_length-le sizes {i = k} (ltb-false k (length sizes) e))

  module _ (test : goes_on limits sizes k r ≡ true) where
    tests : (ltb k (length sizes) ≡ true) × (roomy r.run.progress limits (length r.run.output) ≡ true)
    tests = both (ltb k (length sizes)) (roomy r.run.progress limits (length r.run.output)) test

    pub k< : k < length sizes
    k< = ltb-true k (length sizes) tests.0

    abbrev n : ℕ
    n = get_or sizes k 0

    here : drop k sizes ≡ n ∷ drop (k + 1) sizes
    here = drop-cons sizes k 0 k< ∙ rw add-one

    onward : at + n + sum_of (drop (k + 1) sizes) ≤ length octets
    unfolding sum_of
    onward = let h : at + sum_of (n ∷ drop (k + 1) sizes) ≤ length octets = rw here at P.room in omega arith

    -- the frame lies within the octets
    pub inside : at + n ≤ length octets
    inside = omega (arith, onward)

    abbrev f : List ℕ
    f = take (at + n - at) (drop at octets)

    width : at + n - at ≡ n
    width = omega arith

    length-f : length f ≡ n
    length-f = rw width (length-take-le n (drop at octets) (rw length-drop (omega (arith, onward))))

    frames_here : frames_of (drop k sizes) (drop at octets) ≡ f ∷ frames_of (drop (k + 1) sizes) (drop (at + n) octets)
    unfolding frames_of
    frames_here = rw (here, width, drop-drop n at octets)

    abbrev place : ℕ
    place = r.run.progress.next

    module _ (reason : ℕ) (e : reason ≡ number_of (unfit (draft_at r₀) f place)) where
      -- the frame is refused, and the next one follows
      pub refuses : 0 < reason → Passing limits sizes octets r₀ (k + 1) (at + n) (noted r reason)
      unfolding through
      refuses positive = record {
        same = P.same ∙ rw (frames_here, tests.1, ← e, lt-ltb 0 reason positive);
        set = P.set;
        able = record { sound = P.able.sound; pooled = P.able.pooled; used = P.able.used };
        some = omega (arith, k<);
        room = onward;
        frame = omega (arith, P.frame);
        few = omega (arith, P.few);
        kept = record { pool = P.kept.pool; output = P.kept.output; lengths = P.kept.lengths; numbers = P.kept.numbers };
        places = length-set r.places r.refused r.frame ∙ P.places;
        reasons = length-set r.reasons r.refused reason ∙ P.reasons;
      }

      module _ (good : reason ≤ 0) where
        pub fits : Fit (draft_at r) f place
        fits = subst (λ (s : Settings). Fit (draft s.version) f place) (sym P.set) (fit (draft_at r₀) f place (unrefused (unfit (draft_at r₀) f place) (rw e at good)))

        module _ (t : Run) (ran : t ≡ run_from limits r.run f) where
          went : t ≡ run (width_at r₀) (draft_at r₀).order limits r.run (messages_from (draft_at r₀) f place)
          went = ran ∙ ap (λ (s : Settings). run s.window (draft s.version).order limits r.run (messages_from (draft s.version) f place)) P.set

          -- the frame is left before its end
          pub stopped : t.progress.next < n → within r t ≡ through (draft_at r₀) (width_at r₀) limits r₀ (frames_of sizes octets)
          unfolding through
          stopped lt = sym (P.same ∙ rw (frames_here, tests.1, ← e, le-ltb 0 reason good, ← went, length-f, lt-ltb t.progress.next n lt))

          -- the next frame follows
          pub passes : n ≤ t.progress.next → able_in t → Keeps r.run t → Passing limits sizes octets r₀ (k + 1) (at + n) (passed r t)
          unfolding through
          passes le A K = record {
            same = P.same ∙ rw (frames_here, tests.1, ← e, le-ltb 0 reason good, ← went, length-f, le-ltb t.progress.next n le);
            set = ap (λ (x : Run). settings_of x.board) ran ∙ run-keeps _ _ limits r.run _ ∙ P.set;
            able = record { sound = A.sound; pooled = A.pooled; used = A.used };
            some = omega (arith, k<);
            room = onward;
            frame = omega (arith, P.frame);
            few = omega (arith, P.few);
            kept = record { pool = K.pool ∙ P.kept.pool; output = K.output ∙ P.kept.output; lengths = K.lengths ∙ P.kept.lengths; numbers = K.numbers ∙ P.kept.numbers };
            places = P.places;
            reasons = P.reasons;
          }
