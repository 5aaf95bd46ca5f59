-- The burst call on the image of a state that is sound and fits: it leaves such an image, and is the burst on the state.
use mathlib.Core.Option.{Option, none, some}
use mathlib.Core.Path.{◌≡◌, refl, sym, ap, ◌∙◌}
use mathlib.Core.List.{List}
use Prim.Native.Nat.{ℕ}
use native.Mathlib.Omega.{arith}
use lib.ListN.{length, get_or}
use Rattle.std.proofs.Common.{Result, Ok, Err}
use Rattle.octets.specs.Octets.{Octets}
use Rattle.wire.proofs.Spans.{sized}
use Rattle.rows.specs.State.{window_of}
use Rattle.rows.proofs.Rows.{sound-window}
use Rattle.rows.specs.declared.State.{State}
use Rattle.rows.specs.Message.{draft_of, Board}
use Rattle.frames.specs.Singles.{room_in}
use Rattle.frames.proofs.Costs.{priced_read}
use Rattle.burst.specs.declared.Taken.{Taken}
use Rattle.burst.specs.declared.Refusal.{Refusal}
use Rattle.burst.specs.declared.Refusal.TheVariants.{Unsound, BufferSize, FrameCount, OctetCount, Misplaced}
use Rattle.burst.specs.Burst.{refusal_number, limits, Lists, Reply, refusal, receive_burst}
use Rattle.burst.specs.Equal.{Sixteen, Long, Shaped, Equals}
use Rattle.burst.proofs.Refusals.{refused, treated, burst_number, sound-not-one}
use Rattle.burst.proofs.Equal.{burst-ready, burst_equals_draft}
use Rattle.burst.proofs.Low.{singles-low}
use Rattle.images.specs.Receiver.{image_of, state_of}
use Rattle.images.proofs.ReceiverImages.{state_back, image-of-is}
use Rattle.answers.specs.Burst.{status, report, kept}
use Rattle.board.specs.Burst.{Exported, exported, burst}
use Rattle.demands.proofs.Images.{Good, with, fits}

status-number : (a : Result Taken Refusal) → status a ≡ burst_number a
status-number (Ok t) = refl
status-number (Err f) = refl

none-refused : (f : Refusal) → refusal_number f ≡ 0 → ⊥
none-refused Unsound z = omega arith
none-refused BufferSize z = omega arith
none-refused FrameCount z = omega arith
none-refused OctetCount z = omega arith
none-refused Misplaced z = omega arith

module _ (s : State) (g : Good s) (pool sizes octets : List ℕ) (k place : ℕ) (l : Lists) (result : List ℕ) where
  abbrev b : Board
  b = with s pool

  abbrev r : Reply
  r = receive_burst (draft_of s) (window_of s) b sizes octets k place l

  abbrev e : Exported
  e = burst (image_of s) pool sizes octets k place l result

  exports : e ≡ exported r (image_of s) result
  unfolding burst
  exports = rw (image-of-is s (fits s g), state_back s (fits s g))

  -- a burst that is refused gives the board back
  pub keeps : (q : Refusal) → r.answer ≡ Err q → r.board ≡ b
  keeps q a = go (refusal (draft_of s) (window_of s) b sizes octets k place l.output) refl
    where
      go : (o : Option Refusal) → refusal (draft_of s) (window_of s) b sizes octets k place l.output ≡ o → r.board ≡ b
      go (some f) h = ap (λ (x : Reply). x.board) (refused (draft_of s) (window_of s) b sizes octets k place l f h)
      go none h = absurd (let x = ap (λ (y : Reply). y.answer) (treated (draft_of s) (window_of s) b sizes octets k place l h) in let z : ◌≡◌ {A = ℕ} 0 1 = cc in omega arith)

  pub image-left : e.image ≡ image_of r.board.state
  unfolding exported kept
  image-left = ap (λ (x : Exported). x.image) exports ∙ go r.answer refl
    where
      go : (a : Result Taken Refusal) → r.answer ≡ a → kept a (image_of s) r.board.state ≡ image_of r.board.state
      go (Ok t) q = refl
      go (Err f) q = rw (keeps f q)

  status-is : e.status ≡ status r.answer
  unfolding exported
  status-is = ap (λ (x : Exported). x.status) exports

  pub shaped : Shaped (draft_of s) (window_of s) b
  shaped = record { window = refl; rows = g.rows; indexes = λ r r<. (g.shaped r r<).indexes64; lengths = λ r r<. (g.shaped r r<).lengths64 }

  module _ (low : Octets octets) (short : Sixteen sizes) (long : Long l) where
    pub burst-good : Good r.board.state
    burst-good = go r.answer refl
      where
        go : (a : Result Taken Refusal) → r.answer ≡ a → Good r.board.state
        go (Err f) q = rw (keeps f q) g
        go (Ok t) q =
            let R = burst-ready (draft_of s) (sized s.settings.version) (priced_read s.settings.version) (window_of s) (sound-window s g.sound) b sizes octets k place l t.bundles t.octets t.frame t.place t.refused shaped short q in
            let E = burst_equals_draft s.settings.version (window_of s) (sound-window s g.sound) b sizes octets k place l t.bundles t.octets t.frame t.place t.refused shaped long short q in
            record { sound = R.sound; shaped = R.shaped; rows = R.rows; low = singles-low s.settings.version (window_of s) (room_in limits (length l.output)) sizes octets E.calls low g.low }

    -- a burst that returns 0 is single calls on the state
    pub burst-same : e.status ≡ 0
        → Equals (draft_of s) (window_of s) b sizes octets k place l (with (state_of e.image) e.pool) e.lists (get_or e.result 0 0) (get_or e.result 1 0) (get_or e.result 2 0) (get_or e.result 3 0) (get_or e.result 4 0)
    unfolding exported report
    burst-same zero = go r.answer refl
      where
        back : state_of e.image ≡ r.board.state
        back = ap state_of image-left ∙ state_back r.board.state (fits r.board.state burst-good)

        pool_left : e.pool ≡ r.board.pool
        pool_left = ap (λ (x : Exported). x.pool) exports

        lists-left : e.lists ≡ r.lists
        lists-left = ap (λ (x : Exported). x.lists) exports

        result-is : e.result ≡ report r.answer result
        result-is = ap (λ (x : Exported). x.result) exports

        go : (a : Result Taken Refusal) → r.answer ≡ a
            → Equals (draft_of s) (window_of s) b sizes octets k place l (with (state_of e.image) e.pool) e.lists (get_or e.result 0 0) (get_or e.result 1 0) (get_or e.result 2 0) (get_or e.result 3 0) (get_or e.result 4 0)
        go (Ok t) q = rw (back, pool_left, lists-left, result-is, q) (burst_equals_draft s.settings.version (window_of s) (sound-window s g.sound) b sizes octets k place l t.bundles t.octets t.frame t.place t.refused shaped long short q)
        go (Err f) q = absurd (none-refused f (sym (ap status q) ∙ sym status-is ∙ zero))

  -- with a sound state it is not refused with 1
  pub burst-taken : e.status ≡ 1 → ⊥
  burst-taken one = sound-not-one (draft_of s) (window_of s) b sizes octets k place l g.sound (sym (status-number r.answer) ∙ sym status-is ∙ one)
