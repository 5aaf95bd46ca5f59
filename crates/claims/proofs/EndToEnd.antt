-- Demand 2, for the sender and the receiver of document 01.
use Rattle.wire.specs.declared.Version.{Version}
use mathlib.Core.Path.{◌≡◌, refl, sym, ap, ◌∙◌}
use mathlib.Core.Bool.{false, false≢true}
use mathlib.Core.List.Memᴰ
use mathlib.Core.List.{List, [], ◌∷◌, ◌++◌, map, map-append}
use Prim.Native.Nat.{ℕ, ◌<◌, ◌^◌}
use lib.Dec.{eqb}
use borrow.Author.Tests.{eqb-true}
use Rattle.octets.proofs.Flags.{cond_elim}
use Rattle.wire.specs.Layout.{read}
use Rattle.wire.specs.Frame.{messages}
use Rattle.wire.proofs.Spans.{sized}
use Rattle.window.specs.Window.{Window}
use Rattle.framing.specs.declared.State.{State}
use Rattle.framing.specs.Answers.{Outcome}
use Rattle.framing.specs.Placing.{closed}
use Rattle.sender.specs.Answers.{is_refusal}
use Rattle.sender.specs.Calls.{flush_cases, flush}
use Rattle.sender.proofs.Ways.{unless-ways}
use Rattle.rows.specs.Message.{order_of, draft, Board, Handed}
use Rattle.receiver.specs.Receive.{receive}
use Rattle.rows.specs.Messages.{board_after, handed_by}
use Rattle.claims.specs.Calls.{Fresh, Entry, handed_of, Calls}
use Rattle.claims.specs.Use.{taken, Used, flushing}
use Rattle.claims.specs.Demand2.{Flushed, Demand2}
use Rattle.claims.proofs.Boards.{answered}
use Rattle.claims.proofs.Taking.{entries_of, frames_of, determined, calls-as, receives}
use Rattle.claims.proofs.Carried.{handed_append, carried}
use Rattle.claims.proofs.Parts.{In}
use Rattle.claims.proofs.Sending.{frame_messages, Sent, sends}

module _ (s : State) (d : List ℕ) where
  abbrev Leaves : Outcome → Type 0
  Leaves o = is_refusal o.answer ≡ false → (o.state.fill ≡ 0) × (o.state.begun ≡ s.begun)

  flush_leaves : Leaves (flush s d)
  unfolding flush is_refusal closed
  flush_leaves =
      unless-ways Leaves s d (flush_cases s d) _ (λ n r. absurd (false≢true (sym r)))
      λ _. cond_elim Leaves (eqb s.fill 0) (λ e _. (eqb-true s.fill 0 e, refl)) λ _ _. (refl, refl)

module _ (v : Version) (w : ℕ) (win : Window w) where
  entries_hand : (b : Board) (fs : List (List ℕ)) → handed_of (entries_of (draft v) w b fs) ≡ map answered (handed_by w (order_of v) b (frame_messages v fs))
  unfolding entries_of handed_of handed_by frame_messages
  entries_hand b [] = refl
  entries_hand b (f ∷ fs) =
      let ms = messages (read v) f in
      rw (handed_append w (order_of v) b ms (frame_messages v fs), map-append answered (handed_by w (order_of v) b ms) (handed_by w (order_of v) (board_after w (order_of v) b ms) (frame_messages v fs)), entries_hand (board_after w (order_of v) b ms) fs)

  entries-frames : (b : Board) (fs : List (List ℕ)) → frames_of (entries_of (draft v) w b fs) ≡ fs
  unfolding entries_of
  entries-frames b [] = refl
  entries-frames b (f ∷ fs) = ap (λ l. f ∷ l) (entries-frames (board_after w (order_of v) b (messages (read v) f)) fs)

  module _ (fs : List (List ℕ)) (bs : List Handed) (F : Flushed v fs bs) (b : Board) (fresh : Fresh v w b) where
    sent : Sent v w F.first fs bs
    sent = sends v w F.size F.first F.numbered F.used F.empty

    arrives : (es : List Entry) → Calls receive b es → frames_of es ≡ fs → handed_of es ≡ map answered bs
    arrives es c e =
        ap handed_of (determined (draft v) w (sized v) (calls-as v w fresh c) (λ x m. sent.formed x.frame (rw e at (Memᴰ.map (λ (x : Entry). x.frame) m))))
        ∙ rw e (entries_hand b fs) ∙ ap (map answered) (carried In (order_of v) w win b fresh F.numbered sent.carry)

    exists : (es : List Entry) × Calls receive b es × (frames_of es ≡ fs)
    exists = (entries_of (draft v) w b fs, receives v w win b fresh fs sent.formed, entries-frames b fs)

  -- for each draft and window
  pub demand2 : Demand2 v w
  demand2 = record { arrives = arrives; exists = exists }

-- Every use whose last call is a flush that is not refused, with nothing begun, is such a use.
pub flushed_last : {v : Version} {p n : ℕ} {s : State} {d b : List ℕ} {fs : List (List ℕ)} {bs : List Handed} → n < 2 ^ 32 → Used v p n s d b fs bs → s.begun ≡ false
    → is_refusal (flush s d).answer ≡ false → Flushed v (fs ++ taken (flush s d)) bs
flushed_last {s = s} {d} {b} n< u e r =
    record { size = _; first = _; numbered = n<; state = (flush s d).state; frame = (flush s d).frame; lent = b; used = flushing u; empty = (flush_leaves s d r).0; idle = (flush_leaves s d r).1 ∙ e }
