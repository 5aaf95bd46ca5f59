-- A refused burst changes nothing, the order of the refusals as a table, and what a burst that is not refused has.
use mathlib.Core.Bool.{Bool, true, false, not, cond, ◌||◌}
use mathlib.Core.List.{List, [], ◌∷◌}
use mathlib.Core.Option.{Option, none, some}
use mathlib.Core.Path.{◌≡◌, refl}
use Prim.Native.Nat.{ℕ, ◌*◌, ◌≤◌}
use native.Mathlib.Omega.{arith}
use lib.ListN.{length, drop}
use lib.Dec.{eqb, ltb}
use borrow.Author.Tests.{eqb-true, ltb-false, not-false}
use Rattle.std.proofs.Common.{Result, Err, Ok}
use Rattle.octets.specs.Octets.{sum_of}
use Rattle.octets.proofs.Flags.{neither, cond_elim}
use Rattle.octets.proofs.Cases.{first}
use Rattle.pieces.specs.Pieces.{bundle_max}
use Rattle.rows.specs.State.{sound}
use Rattle.rows.specs.Message.{Draft, Board}
use Rattle.messages.specs.Run.{going, begun}
use Rattle.frames.specs.Frames.{frames_of, Reach, set_out, through}
use Rattle.burst.specs.declared.Taken.{Taken}
use Rattle.burst.specs.declared.Refusal.{Refusal}
use Rattle.burst.specs.declared.Refusal.TheVariants.{Unsound, BufferSize, FrameCount, OctetCount, Misplaced}
use Rattle.burst.specs.Burst.{refusal_number, frames_max, limits, Lists, taken, replied, misplaced_in, unfitting, refusal, receive_burst}

-- a test that refuses was not met
unmet : (b : Bool) (q : Refusal) (o : Option Refusal) → cond b (some q) o ≡ none → (b ≡ false) × (o ≡ none)
unmet true q o e = absurd (let z : ◌≡◌ {A = ℕ} 0 1 = cc in omega arith)
unmet false q o e = (refl, e)

module _ (D : Draft) (w : ℕ) (b : Board) (sizes octets : List ℕ) (k place : ℕ) (l : Lists) where
  abbrev why : Option Refusal
  why = refusal D w b sizes octets k place l.output

  -- the frames from the start on
  abbrev pub went : Reach
  went =
      through D w limits (set_out (going b.state b.pool l.output l.lengths l.numbers (begun place)) l.places l.reasons k) (drop k (frames_of sizes octets))

  pub refused : (q : Refusal) → why ≡ some q → receive_burst D w b sizes octets k place l ≡ record { answer = Err q; board = b; lists = l }
  unfolding receive_burst replied
  refused q e = rw e

  pub treated : why ≡ none → receive_burst D w b sizes octets k place l ≡ taken went
  unfolding receive_burst replied
  treated e = rw e

  -- what a call that is not refused has
  pub record Admits : Type 0 where
    pub state : sound b.state ≡ true
    pub pool : length b.pool ≡ w * bundle_max
    pub room : bundle_max ≤ length l.output
    pub few : length sizes ≤ frames_max
    pub even : length octets ≡ sum_of sizes
    pub below : k ≤ length sizes
    pub placed : misplaced_in D (drop k (frames_of sizes octets)) place ≡ false

  pub admits : why ≡ none → Admits
  unfolding refusal unfitting
  admits e =
      let u₁ = unmet (not (sound b.state)) Unsound _ e in
      let u₂ = unmet (not (eqb (length b.pool) (w * bundle_max)) || ltb (length l.output) bundle_max) BufferSize _ u₁.1 in
      let u₃ = unmet (ltb frames_max (length sizes)) FrameCount _ u₂.1 in
      let u₄ = unmet (not (eqb (length octets) (sum_of sizes))) OctetCount _ u₃.1 in
      let u₅ = unmet (ltb (length sizes) k || misplaced_in D (drop k (frames_of sizes octets)) place) Misplaced _ u₄.1 in
      let p = neither (not (eqb (length b.pool) (w * bundle_max))) (ltb (length l.output) bundle_max) u₂.0 in
      let s = neither (ltb (length sizes) k) (misplaced_in D (drop k (frames_of sizes octets)) place) u₅.0 in
      record {
        state = not-false (sound b.state) u₁.0;
        pool = eqb-true (length b.pool) (w * bundle_max) (not-false (eqb (length b.pool) (w * bundle_max)) p.0);
        room = ltb-false (length l.output) bundle_max p.1;
        few = ltb-false frames_max (length sizes) u₃.0;
        even = eqb-true (length octets) (sum_of sizes) (not-false (eqb (length octets) (sum_of sizes)) u₄.0);
        below = ltb-false (length sizes) k s.0;
        placed = s.1;
      }

  -- ---- document 02's table: each number, and whether its case holds, in its order

  abbrev pub burst_cases : List (ℕ × Bool)
  burst_cases =
      (1, not (sound b.state))
      ∷ (2, not (eqb (length b.pool) (w * bundle_max)) || ltb (length l.output) bundle_max)
      ∷ (3, ltb frames_max (length sizes))
      ∷ (19, not (eqb (length octets) (sum_of sizes)))
      ∷ (9, ltb (length sizes) k || misplaced_in D (drop k (frames_of sizes octets)) place)
      ∷ []

-- 0 for none
abbrev pub burst_number : Result Taken Refusal → ℕ
burst_number (Ok t) = 0
burst_number (Err q) = refusal_number q

table : (b₁ b₂ b₃ b₄ b₅ : Bool) (b : Board) (l : Lists) (r : Reach)
    → burst_number (replied (cond b₁ (some Unsound) (cond b₂ (some BufferSize) (cond b₃ (some FrameCount) (cond b₄ (some OctetCount) (cond b₅ (some Misplaced) none))))) b l (taken r)).answer
    ≡ cond b₁ 1 (cond b₂ 2 (cond b₃ 3 (cond b₄ 19 (cond b₅ 9 0))))
unfolding replied
table true b₂ b₃ b₄ b₅ b l r = refl
table false true b₃ b₄ b₅ b l r = refl
table false false true b₄ b₅ b l r = refl
table false false false true b₅ b l r = refl
table false false false false true b l r = refl
table false false false false false b l r = refl

abbrev NotOne : ℕ → Type 0
NotOne n = n ≡ 1 → ⊥

-- the refusal is the first of the table that applies
pub burst-in_order : (D : Draft) (w : ℕ) (b : Board) (sizes octets : List ℕ) (k place : ℕ) (l : Lists)
    → burst_number (receive_burst D w b sizes octets k place l).answer ≡ first (burst_cases D w b sizes octets k place l)
unfolding receive_burst refusal unfitting first
burst-in_order D w b sizes octets k place l =
    table (not (sound b.state)) (not (eqb (length b.pool) (w * bundle_max)) || ltb (length l.output) bundle_max) (ltb frames_max (length sizes)) (not (eqb (length octets) (sum_of sizes)))
    (ltb (length sizes) k || misplaced_in D (drop k (frames_of sizes octets)) place) b l (went D w b sizes octets k place l)

-- with a sound state the first case never applies
pub sound-not-one : (D : Draft) (w : ℕ) (b : Board) (sizes octets : List ℕ) (k place : ℕ) (l : Lists) → sound b.state ≡ true
    → burst_number (receive_burst D w b sizes octets k place l).answer ≡ 1 → ⊥
unfolding first
sound-not-one D w b sizes octets k place l s =
    rw (burst-in_order D w b sizes octets k place l, s)
    (cond_elim NotOne (not (eqb (length b.pool) (w * bundle_max)) || ltb (length l.output) bundle_max) (λ _ e. omega arith)
    λ _. cond_elim NotOne (ltb frames_max (length sizes)) (λ _ e. omega arith)
    λ _. cond_elim NotOne (not (eqb (length octets) (sum_of sizes))) (λ _ e. omega arith)
    λ _. cond_elim NotOne (ltb (length sizes) k || misplaced_in D (drop k (frames_of sizes octets)) place) (λ _ e. omega arith) λ _ e. omega arith)
