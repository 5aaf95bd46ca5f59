-- Demands 2 and 3 of the exported calls, from those of the calls on states.
use mathlib.Core.Path.{◌≡◌, refl, sym, ap, ◌∙◌}
use mathlib.Core.List.Memᴰ
use mathlib.Core.List.{List, map, Memᴰ}
use Prim.Native.Nat.{ℕ}
use Rattle.octets.specs.Octets.{Octets}
use Rattle.wire.specs.declared.Version.{Version}
use Rattle.window.specs.Window.{Window}
use Rattle.rows.specs.State.{fresh}
use Rattle.rows.specs.Message as Rows
use Rattle.rows.specs.Message.{Handed}
use Rattle.receiver.specs.Receive.{receive}
use Rattle.images.specs.Receiver.{state_of}
use Rattle.images.proofs.ReceiverImages.{state_back}
use Rattle.claims.specs.Record.{Record}
use Rattle.claims.specs.Calls as States
use Rattle.claims.specs.Calls.{Entry}
use Rattle.claims.specs.Demand3 as States3
use Rattle.claims.proofs.MoreReception as States-more
use Rattle.claims.proofs.EndToEnd as States2
use Rattle.demands.specs.Boards.{Board, Fresh, Calls}
use Rattle.demands.specs.Senders.{Flushed}
use Rattle.demands.specs.Demands.{Reception, Demand3, Demand2, on_state, SameCalls}
use Rattle.demands.proofs.Images.{with, fits, fresh_good, made}
use Rattle.demands.proofs.Boards.{On, calls_states, imaged, calls_images}
use Rattle.demands.proofs.Senders.{used_states_lem, flush_sends}

-- ---- a fresh board

-- the board that it is on states
abbrev fresh_of : Version → ℕ → Board → Rows.Board
fresh_of v w b = with (fresh v w) b.pool

module _ (v : Version) (w : ℕ) (b : Board) (F : Fresh v w b) where
  win : Window w
  win = (made v w F.old F.started).0

  on-fresh : On (fresh v w) b
  on-fresh = record { image = (made v w F.old F.started).1; good = fresh_good v w win }

  fresh_state : States.Fresh v w (fresh_of v w b)
  fresh_state = record { started = refl; pooled = F.pooled }

  state_fresh : on_state b ≡ fresh_of v w b
  state_fresh =
      let e : state_of b.image ≡ fresh v w = ap state_of on-fresh.image ∙ state_back (fresh v w) (fits (fresh v w) on-fresh.good) in
      λ j. record { state = e j; pool = b.pool }

  image-fresh : imaged (fresh_of v w b) ≡ b
  image-fresh = λ j. record { image = sym on-fresh.image j; pool = b.pool }

  to_states_lem : (es : List Entry) → Calls b es → States.Calls receive (fresh_of v w b) es
  to_states_lem es c = calls_states c (fresh v w) on-fresh

  to_images_lem : (es : List Entry) → ((e : Entry) → Memᴰ e es → Octets e.frame) → States.Calls receive (fresh_of v w b) es → Calls b es
  to_images_lem es low c = rw image-fresh at (calls_images c on-fresh.good low)

pub same_calls : SameCalls
same_calls =
    record {
      to_states = λ v w b F es c. rw (state_fresh v w b F) (to_states_lem v w b F es c);
      to_images = λ v w b F es low c. to_images_lem v w b F es low (rw (state_fresh v w b F) at c);
      used_states = used_states_lem;
    }

-- ---- Demand 3

module _ {v : Version} (R : Record v) where
  abbrev window : {w : ℕ} {es : List Entry} → Reception R w es → Window w
  window {w} P = win v w P.board P.fresh

  on_states : {w : ℕ} {es : List Entry} → Reception R w es → States3.Reception R w es
  on_states {w} {es} P =
      record { board = fresh_of v w P.board; fresh = fresh_state v w P.board P.fresh; calls = to_states_lem v w P.board P.fresh es P.calls; drawn = P.drawn }

  -- for each draft and every pair of windows
  pub demand3 : (w₁ w₂ : ℕ) → Demand3 R w₁ w₂
  demand3 w₁ w₂ =
      record {
        only_bundles = λ x P. (States-more.demand3 R w₁ w₁ (window P) (window P)).only_bundles x (on_states P);
        none_twice = λ x P. (States-more.demand3 R w₁ w₁ (window P) (window P)).none_twice x (on_states P);
        more_never_costs = λ x y P Q. (States-more.demand3 R w₁ w₂ (window P) (window Q)).more_never_costs x y (on_states P) (on_states Q);
      }

-- ---- Demand 2

module _ (v : Version) (w : ℕ) (fs : List (List ℕ)) (bs : List Handed) (S : Flushed v fs bs) (b : Board) (F : Fresh v w b) where
  exists : (es : List Entry) × Calls b es × (map (λ (e : Entry). e.frame) es ≡ fs)
  exists =
      let s = flush_sends v fs bs S in
      let x = (States2.demand2 v w (win v w b F)).exists fs bs s.flushed (fresh_of v w b) (fresh_state v w b F) in
      (x.0, to_images_lem v w b F x.0 (λ e m. s.octets e.frame (rw x.2 at (Memᴰ.map (λ (e : Entry). e.frame) m))) x.1, x.2)

-- for each draft and window
pub demand2 : (v : Version) (w : ℕ) → Demand2 v w
demand2 v w =
    record {
      arrives = λ fs bs S b F es c. (States2.demand2 v w (win v w b F)).arrives fs bs (flush_sends v fs bs S).flushed (fresh_of v w b) (fresh_state v w b F) es (to_states_lem v w b F es c);
      exists = exists v w;
    }
