-- After start no receiver and no sender is locked out: each image reached is that of a sound state, and no call on it is refused with 1.
use mathlib.Core.Path.{◌≡◌, refl, sym, ap, ◌∙◌}
use mathlib.Core.Bool.{not, ◌||◌, ◌&&◌}
use mathlib.Core.List.{List}
use Prim.Native.Nat.{ℕ}
use native.Mathlib.Omega.{arith}
use lib.ListN.{length}
use lib.Dec.{eqb, ltb}
use Rattle.std.proofs.Common.{Err, Ok, Result}
use Rattle.octets.proofs.Flags.{cond_elim}
use Rattle.pieces.specs.Pieces.{bundle_max}
use Rattle.rows.specs.declared.State as Row
use Rattle.rows.specs.State.{window_of, fresh}
use Rattle.rows.specs.Message.{draft_of}
use Rattle.receiver.specs.declared.Answer.{Answer}
use Rattle.receiver.specs.declared.Refusal.{Refusal}
use Rattle.receiver.specs.declared.Answer.TheVariants.{Delivered, Finished}
use Rattle.receiver.specs.Receive.{receive}
use Rattle.receiver.proofs.Bounds.{refused-for}
use Rattle.receiver.proofs.Refusals.{sound-not-one}
use Rattle.burst.specs.Burst.{receive_burst}
use Rattle.framing.specs.declared.State.{State}
use Rattle.framing.specs.Answers.{Reply, placed, placed_and_ready, ready, nothing, refused}
use Rattle.sender.specs.Answers.{first_of, reply_number}
use Rattle.sender.specs.Calls.{place_cases, cancel_cases, flush_cases}
use Rattle.sender.proofs.Refusals.{place-first, cancel-first, flush-first}
use Rattle.images.specs.Receiver as Receiver
use Rattle.images.specs.Sender as Sender
use Rattle.images.proofs.ReceiverImages as ReceiverImages
use Rattle.images.proofs.SenderImages as SenderImages
use Rattle.answers.specs.Receiver as Answers
use Rattle.answers.specs.Receiver.{number_in}
use Rattle.answers.specs.Sender.{status}
use Rattle.answers.proofs.Codes.{number-back}
use Rattle.board.specs.Receiver as Receiving
use Rattle.board.specs.Receiver.{received}
use Rattle.board.specs.Burst.{burst}
use Rattle.board.specs.Sender as Sending
use Rattle.claims.specs.Use.{Call, to_place, to_cancel, to_flush, outcome_of}
use Rattle.demands.specs.Boards as Boards
use Rattle.demands.specs.Senders as Senders
use Rattle.demands.specs.Senders.{call_of}
use Rattle.demands.specs.Demands.{NeverLockedOut, ExportedBursts}
use Rattle.demands.proofs.Images as Images
use Rattle.demands.proofs.Images.{with, fits, fresh_good, call_good}
use Rattle.demands.proofs.Bursts as Bursts
use Rattle.demands.proofs.Senders as Sent

-- ---- the receiver

pub record OnReceiver (image : List ℕ) : Type 0 where
  pub state : Row.State
  pub on : image ≡ Receiver.image_of state
  pub good : Images.Good state

pub receiver_on : {image : List ℕ} → Boards.Reached image → OnReceiver image
receiver_on (Boards.started v w old e) = let m = Images.made v w old e in record { state = fresh v w; on = m.1; good = fresh_good v w m.0 }
receiver_on (Boards.called {image} pool frame place output result low u) =
    let k = receiver_on u in
    record {
      state = (receive (with k.state pool) frame place output).board.state;
      on = ap (λ (i : List ℕ). (received i pool frame place output result).image) k.on ∙ Images.image-left k.state k.good pool frame place output result;
      good = call_good k.state k.good pool frame place output low;
    }
receiver_on (Boards.burst {image} pool sizes octets frame place l result low short long u) =
    let k = receiver_on u in
    record {
      state = (receive_burst (draft_of k.state) (window_of k.state) (with k.state pool) sizes octets frame place l).board.state;
      on = ap (λ (i : List ℕ). (burst i pool sizes octets frame place l result).image) k.on ∙ Bursts.image-left k.state k.good pool sizes octets frame place l result;
      good = Bursts.burst-good k.state k.good pool sizes octets frame place l result low short long;
    }

receiver_sound : (s : Row.State) → Images.Good s → Receiving.checked (Receiver.image_of s) ≡ 0
unfolding Receiving.checked
receiver_sound s g = rw (ReceiverImages.image-of-is s (fits s g), ReceiverImages.state_back s (fits s g), g.sound)

receive-taken : (s : Row.State) → Images.Good s → (pool frame : List ℕ) (place : ℕ) (output result : List ℕ)
    → number_in (received (Receiver.image_of s) pool frame place output result).status ≡ 1 → ⊥
receive-taken s g pool frame place output result e =
    go (receive (with s pool) frame place output).answer refl (rw (Images.status-is s g pool frame place output result) at e)
  where
    go : (a : Result Answer Refusal) → (receive (with s pool) frame place output).answer ≡ a → number_in (Answers.status a) ≡ 1 → ⊥
    go (Ok (Delivered n next o)) q e = omega arith
    go (Ok Finished) q e = omega arith
    go (Err f) q e =
        sound-not-one (draft_of s) (window_of s) (with s pool) frame place output g.sound f (refused-for (draft_of s) (window_of s) (with s pool) frame place output f q) (sym (number-back f) ∙ e)

-- ---- the sender

record OnSender (image : List ℕ) : Type 0 where
  state : State
  on : image ≡ Sender.image_of state
  good : Sent.Good state

sender_on : {image : List ℕ} → Senders.Reached image → OnSender image
sender_on (Senders.started {image} v old p n n< e) = let m = Sent.started-on v p n old image n< e in record { state = m.0; on = m.2; good = m.3 }
sender_on (Senders.called {image} c frame result u) =
    let k = sender_on u in
    record {
      state = (outcome_of c k.state frame).state;
      on = ap (λ (i : List ℕ). (call_of c i frame result).image) k.on ∙ Sent.image-left k.state k.good c frame result;
      good = Sent.call_good c k.state frame k.good;
    }

sender_sound : (s : State) → Sent.Good s → Sending.checked (Sender.image_of s) ≡ 0
unfolding Sending.checked
sender_sound s g = rw (SenderImages.image-of-is s, SenderImages.state_back s (Sent.fits s g), g.sound)

status-number : (a : Reply) → status a ≡ reply_number a
unfolding status reply_number
status-number placed = refl
status-number placed_and_ready = refl
status-number ready = refl
status-number nothing = refl
status-number (refused n) = refl

abbrev NotOne : ℕ → Type 0
NotOne n = n ≡ 1 → ⊥

-- with a sound state the first case never applies
call-taken : (c : Call) (s : State) (d : List ℕ) → Sent.Good s → NotOne (reply_number (outcome_of c s d).answer)
unfolding outcome_of place_cases cancel_cases flush_cases first_of
call-taken (to_place b) s d g =
    rw (place-first s b d, g.sound)
    (cond_elim NotOne (not (eqb (length d) s.size)) (λ _ e. omega arith)
    λ _. cond_elim NotOne (eqb (length b) 0 || ltb bundle_max (length b)) (λ _ e. omega arith)
    λ _. cond_elim NotOne (s.begun && not (eqb (length b) s.length)) (λ _ e. omega arith) λ _ e. omega arith)
call-taken to_cancel s d g =
    rw (cancel-first s d, g.sound)
    (cond_elim NotOne (not (eqb (length d) s.size)) (λ _ e. omega arith) λ _. cond_elim NotOne (not s.begun) (λ _ e. omega arith) λ _ e. omega arith)
call-taken to_flush s d g = rw (flush-first s d, g.sound) (cond_elim NotOne (not (eqb (length d) s.size)) (λ _ e. omega arith) λ _ e. omega arith)

send-taken : (s : State) → Sent.Good s → (c : Call) (frame result : List ℕ) → (call_of c (Sender.image_of s) frame result).status ≡ 1 → ⊥
send-taken s g c frame result e = call-taken c s frame g (sym (status-number (outcome_of c s frame).answer) ∙ sym (Sent.status-is s g c frame result) ∙ e)

pub never_locked_out : NeverLockedOut
never_locked_out =
    record {
      receiver = λ image u. let k = receiver_on u in rw k.on (receiver_sound k.state k.good);
      receive = λ image u. let k = receiver_on u in rw k.on (receive-taken k.state k.good);
      receive_burst = λ image u pool sizes octets frame place l result. let k = receiver_on u in rw k.on (Bursts.burst-taken k.state k.good pool sizes octets frame place l result);
      sender = λ image u. let k = sender_on u in rw k.on (sender_sound k.state k.good);
      send = λ image u. let k = sender_on u in rw k.on (send-taken k.state k.good);
    }

-- request E3, exported: each image reached is that of a state, and a burst on it is the burst on the state
pub exported_bursts : ExportedBursts
exported_bursts image u pool sizes octets k place l result low short long =
    let o = receiver_on u in
    let back : Receiver.state_of (Receiver.image_of o.state) ≡ o.state = ReceiverImages.state_back o.state (fits o.state o.good) in
    rw (o.on, back) (Bursts.burst-same o.state o.good pool sizes octets k place l result low short long)
