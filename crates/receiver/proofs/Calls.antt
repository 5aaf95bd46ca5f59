-- A receiving call by cases, and the messages of a frame treated one after the other, of which each call treats some.
use mathlib.Core.Path.{◌≡◌, refl, ap}
use mathlib.Core.Bool.{true, false, ◌||◌}
use mathlib.Core.Option.{Option, none, some}
use mathlib.Core.List.{List, [], ◌∷◌, ◌++◌}
use Prim.Native.Nat.{ℕ, ◌+◌, ◌*◌, ◌≤◌, ◌<◌}
use native.Mathlib.Omega.{arith}
use lib.ListN.{length, take, drop}
use lib.Seq.{take-append_seam}
use lib.Dec.{eqb, ltb}
use borrow.Author.Tests.{eq-eqb, ne_eqb, le-ltb}
use Rattle.std.proofs.Common.{Err, Ok}
use Rattle.octets.specs.Octets.{put}
use Rattle.wire.specs.Frame.{Item, row, items, scanned, starts, checked, judged, from, frame_max}
use Rattle.pieces.specs.Pieces.{bundle_max}
use Rattle.receiver.specs.declared.Refusal.{Refusal}
use Rattle.receiver.specs.declared.Answer.TheVariants.{Delivered, Finished}
use Rattle.rows.specs.State as State
use Rattle.rows.specs.Message.{Draft, Board, Handed, step, messages_from}
use Rattle.rows.specs.Messages.{listed, board_after, handed_by, messages_in}
use Rattle.receiver.specs.Receive.{frame_refusal, replied, delivered, refusal, treat, receive_as}

module _ (D : Draft) (w : ℕ) where
  -- A call is refused and changes nothing, or treats the messages from its place on.
  pub data Called (b : Board) (frame : List ℕ) (place : ℕ) (output : List ℕ) : Type 0 where
    denied : (r : Refusal) → receive_as D w b frame place output ≡ record { answer = Err r; board = b; output = output } → Called b frame place output
    treated : receive_as D w b frame place output ≡ treat D w b (messages_from D frame place) output → Called b frame place output

  pub called : (b : Board) (frame : List ℕ) (place : ℕ) (output : List ℕ) → Called b frame place output
  unfolding receive_as replied
  called b frame place output = go (refusal D w b frame place output) refl
    where
      go : (r : Option Refusal) → refusal D w b frame place output ≡ r → Called b frame place output
      go none e = treated (rw e)
      go (some r) e = denied r (rw e)

  -- What treating some items comes to: all are treated, or those up to the first that hands out a bundle.
  pub data Treated (b : Board) (is : List Item) (output : List ℕ) : Type 0 where
    through : (treat D w b is output).answer ≡ Ok Finished → handed_by w D.order b (messages_in is) ≡ [] → board_after w D.order b (messages_in is) ≡ (treat D w b is output).board
        → Treated b is output
    stops : (pre : List Item) (i : Item) (suf : List Item) (h : Handed) → is ≡ pre ++ i ∷ suf
        → (treat D w b is output).answer ≡ Ok (Delivered (length h.octets) i.next h.origin)
        → take (length h.octets) (treat D w b is output).output ≡ h.octets
        → handed_by w D.order b (messages_in is) ≡ h ∷ handed_by w D.order (treat D w b is output).board (messages_in suf)
        → board_after w D.order b (messages_in is) ≡ board_after w D.order (treat D w b is output).board (messages_in suf)
        → Treated b is output

  pub treating : (b : Board) (is : List Item) (output : List ℕ) → Treated b is output
  unfolding treat handed_by board_after listed delivered put
  treating b [] output = through refl refl refl
  treating b (i ∷ is) output = go (step w D.order b i.message).handed refl (treating (step w D.order b i.message).board is output)
    where
      go : (o : Option Handed) → (step w D.order b i.message).handed ≡ o → Treated (step w D.order b i.message).board is output → Treated b (i ∷ is) output
      go none e (through a h r) = through (rw e a) (rw e h) (rw e r)
      go none e (stops pre j suf h q a t hs r) = stops (i ∷ pre) j suf h (ap (λ l. i ∷ l) q) (rw e a) (rw e t) (rw e hs) (rw e r)
      go (some h) e r = stops [] i is h refl (rw e) (rw e (take-append_seam h.octets (drop (0 + length h.octets) output))) (rw e) (rw e)

  pub treat-answers : {A : Type 0} (b : Board) (is : List Item) (output : List ℕ) (r : Refusal) → (treat D w b is output).answer ≡ Err r → A
  treat-answers {A} b is output r e = go (treating b is output)
    where
      go : Treated b is output → A
      go (through a h q) = let z : ◌≡◌ {A = ℕ} 0 1 = cc in absurd (omega arith)
      go (stops pre i suf h q a t hs v) = let z : ◌≡◌ {A = ℕ} 0 1 = cc in absurd (omega arith)

  pub refused-keeps : (b : Board) (frame : List ℕ) (place : ℕ) (output : List ℕ) (r : Refusal) → (receive_as D w b frame place output).answer ≡ Err r → (receive_as D w b frame place output).board ≡ b
  refused-keeps b frame place output r e = go (called b frame place output)
    where
      go : Called b frame place output → (receive_as D w b frame place output).board ≡ b
      go (denied q e) = rw e
      go (treated q) = treat-answers b (messages_from D frame place) output r (rw q at e)

  -- a call that is not refused treats
  pub not-refused : (b : Board) (frame : List ℕ) (place : ℕ) (output : List ℕ) → ((r : Refusal) → (receive_as D w b frame place output).answer ≡ Err r → ⊥)
      → receive_as D w b frame place output ≡ treat D w b (messages_from D frame place) output
  not-refused b frame place output never = go (called b frame place output)
    where
      go : Called b frame place output → receive_as D w b frame place output ≡ treat D w b (messages_from D frame place) output
      go (denied r e) = absurd (never r (rw e))
      go (treated q) = q

  -- a call on a sound state, with a pool and an output of good size, a well-formed frame and a good place
  pub admitted : (b : Board) (frame : List ℕ) (place : ℕ) (output : List ℕ) (is : List Item) → State.sound b.state ≡ true → length b.pool ≡ w * bundle_max → bundle_max ≤ length output
      → 0 < length frame → length frame ≤ frame_max → scanned D.read frame ≡ row is → (eqb place (length frame) || starts place is) ≡ true
      → receive_as D w b frame place output ≡ treat D w b (from place is) output
  unfolding receive_as refusal replied frame_refusal checked judged messages_from items
  admitted b frame place output is s p o positive small whole good =
      let e₁ : eqb (length b.pool) (w * bundle_max) ≡ true = eq-eqb (length b.pool) (w * bundle_max) p in
      let e₂ : ltb (length output) bundle_max ≡ false = le-ltb (length output) bundle_max o in
      let e₃ : eqb (length frame) 0 ≡ false = ne_eqb (length frame) 0 (omega arith) in
      let e₄ : ltb frame_max (length frame) ≡ false = le-ltb frame_max (length frame) small in
      rw (s, e₁, e₂, e₃, e₄, whole, good)
