-- The receiving call on the image of a state that is sound and fits: it leaves such an image, and answers what the call on the state answers.
use mathlib.Core.Path.{◌≡◌, refl, sym, ap, ◌∙◌}
use mathlib.Core.Option.{Option, none, some}
use mathlib.Core.List.{List}
use Prim.Native.Nat.{ℕ, ◌*◌, ◌<◌, ◌^◌}
use native.Mathlib.Omega.{arith}
use lib.ListN.{length, get_or, replicate, length-replicate}
use borrow.Author.Tests.{ne_eqb}
use mathlib.Core.Bool.{true, false}
use mathlib.Core.Logic.{◌⊎◌, inl, inr}
use Rattle.std.proofs.Common.{None, Some, Err, Ok, Result}
use Rattle.octets.specs.Octets.{Octets}
use Rattle.octets.proofs.Flags.{bool}
use Rattle.wire.specs.declared.Version.{Version}
use Rattle.window.specs.Window.{Window, is_window}
use Rattle.window.proofs.Sizes.{window_of_lem}
use Rattle.pieces.specs.Pieces.{bundle_max}
use Rattle.row.specs.declared.Phase.TheVariants.{Free}
use Rattle.row.specs.Row.{empty_row}
use Rattle.row.proofs.Shaped.{Shaped}
use Rattle.rows.specs.Origin.{Origin}
use Rattle.rows.specs.declared.State.{State}
use Rattle.rows.specs.State as State
use Rattle.rows.specs.State.{window_of, row_max, fresh}
use Rattle.rows.specs.Message.{draft_of, Board}
use Rattle.rows.proofs.Rows.{get_or_any, sound-window}
use Rattle.messages.specs.Run.{origin_number}
use Rattle.receiver.specs.declared.Answer.{Answer}
use Rattle.receiver.specs.declared.Answer.TheVariants.{Delivered, Finished}
use Rattle.receiver.specs.declared.Refusal.{Refusal}
use Rattle.receiver.specs.Receive.{Reply, refusal, receive}
use Rattle.receiver.proofs.Ready.{Ready, fresh-ready, receive-ready}
use Rattle.receiver.proofs.Refusals.{admits, refused}
use Rattle.receiver.proofs.Calls.{refused-keeps}
use Rattle.receiver.proofs.Bounds.{LowOrigin, draft-low}
use Rattle.images.specs.Receiver.{image_of}
use Rattle.images.proofs.ReceiverImages.{StateFits, state_back, image-of-is, sound_state_fits}
use Rattle.answers.specs.Receiver.{status, report, kept}
use Rattle.board.specs.Receiver.{Exported, exported, received, started}
use Rattle.demands.specs.Boards.{origin_of}

-- ---- states

pub record Good (s : State) : Type 0 where
  pub sound : State.sound s ≡ true
  pub shaped : (r : ℕ) → r < row_max → Shaped (get_or s.rows r (empty_row Free))
  pub rows : length s.rows ≡ row_max
  pub low : s.greatest < 2 ^ 32

abbrev pub with : State → List ℕ → Board
with s pool = record { state = s; pool = pool }

good_of : {w : ℕ} (b : Board) → Ready w b → b.state.greatest < 2 ^ 32 → Good b.state
good_of b r l = record { sound = r.sound; shaped = r.shaped; rows = r.rows; low = l }

pub fits : (s : State) → Good s → StateFits s
fits s g = sound_state_fits s g.sound g.rows g.low λ k z h. rw (get_or_any s.rows k z (empty_row Free) h) (g.shaped k (omega (arith, g.rows)))

pub fresh_good : (v : Version) (w : ℕ) → Window w → Good (fresh v w)
unfolding fresh
fresh_good v w win =
    let r = fresh-ready w win v (replicate (w * bundle_max) 0) (length-replicate {A = ℕ} (w * bundle_max) 0) in
    good_of _ r (omega arith)

-- a start that returned 0: its window is one, and the image is that of a fresh state
pub made : (v : Version) (w : ℕ) (old : List ℕ) {image : List ℕ} → started v old w ≡ (0, image) → Window w × (image ≡ image_of (fresh v w))
unfolding started
made v w old {image} e = go (bool (is_window w))
  where
    go : (is_window w ≡ true) ⊎ (is_window w ≡ false) → Window w × (image ≡ image_of (fresh v w))
    go (inl h) = let x : ◌≡◌ {A = ℕ × List ℕ} (0, image_of (fresh v w)) (0, image) = rw h at e in (window_of_lem w h, ap (λ (p : ℕ × List ℕ). p.1) (sym x))
    go (inr h) = let x : ◌≡◌ {A = ℕ × List ℕ} (21, old) (0, image) = rw h at e in absurd (let z = ap (λ (p : ℕ × List ℕ). p.0) x in omega arith)

pub call_good : (s : State) → Good s → (pool frame : List ℕ) (place : ℕ) (output : List ℕ) → Octets frame → Good (receive (with s pool) frame place output).board.state
call_good s g pool frame place output low = go (refusal (draft_of s) (window_of s) (with s pool) frame place output) refl
  where
    go : (o : Option Refusal) → refusal (draft_of s) (window_of s) (with s pool) frame place output ≡ o → Good (receive (with s pool) frame place output).board.state
    go none e =
        let a = admits (draft_of s) (window_of s) (with s pool) frame place output e in
        let r : Ready (window_of s) (with s pool) = record { window = refl; sound = g.sound; shaped = g.shaped; rows = g.rows; pool = a.pool } in
        good_of _ (receive-ready (window_of s) (sound-window s g.sound) (draft_of s) (with s pool) frame place output r) (draft-low (window_of s) s.settings.version (with s pool) frame place output low g.low)
    go (some q) e = rw (refused (draft_of s) (window_of s) (with s pool) frame place output q e) g

-- ---- the number of a bundle reads back

pub origin_back : (o : Origin) → LowOrigin o → origin_of (origin_number o) ≡ o
unfolding origin_of
origin_back None l = refl
origin_back (Some t) l = rw (ne_eqb t (2 ^ 32) (λ e. omega arith))

-- ---- the call

module _ (s : State) (g : Good s) (pool frame : List ℕ) (place : ℕ) (output result : List ℕ) where
  abbrev r : Reply
  r = receive (with s pool) frame place output

  abbrev e : Exported
  e = received (image_of s) pool frame place output result

  exports : e ≡ exported r (image_of s) result
  unfolding received
  exports = rw (image-of-is s (fits s g), state_back s (fits s g))

  pub image-left : e.image ≡ image_of r.board.state
  unfolding exported kept
  image-left = ap (λ (x : Exported). x.image) exports ∙ go r.answer refl
    where
      go : (a : Result Answer Refusal) → r.answer ≡ a → kept a (image_of s) r.board.state ≡ image_of r.board.state
      go (Ok (Delivered n next o)) q = refl
      go (Ok Finished) q = refl
      go (Err f) q = rw (refused-keeps (draft_of s) (window_of s) (with s pool) frame place output f q)

  pub pool_left : e.pool ≡ r.board.pool
  unfolding exported
  pool_left = ap (λ (x : Exported). x.pool) exports

  pub output-left : e.output ≡ r.output
  unfolding exported
  output-left = ap (λ (x : Exported). x.output) exports

  pub status-is : e.status ≡ status r.answer
  unfolding exported
  status-is = ap (λ (x : Exported). x.status) exports

  pub result-is : e.result ≡ report r.answer result
  unfolding exported
  result-is = ap (λ (x : Exported). x.result) exports
