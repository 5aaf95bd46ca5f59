-- The place that a refusal names lies within the longest frame, and in frames of octets the greatest number and the number of a bundle
-- have 32 bits.
use mathlib.Core.Path.{◌≡◌, refl}
use mathlib.Core.Bool.{not, ◌||◌}
use mathlib.Core.Option.{Option, none, some}
use mathlib.Core.List.{List, [], ◌∷◌}
use Prim.Native.Nat.{ℕ, ◌*◌, ◌<◌, ◌^◌}
use native.Mathlib.Omega.{arith}
use lib.ListN.{length}
use lib.Dec.{eqb, ltb}
use borrow.Author.Tests.{ltb-false}
use Rattle.std.proofs.Common.{None, Some, Err, Ok, Result}
use Rattle.octets.specs.Octets.{Octets}
use Rattle.octets.proofs.Flags.{neither, cond_elim}
use Rattle.wire.specs.Message.{Message, skipped, bundle, segment, last, cancel}
use Rattle.wire.specs.declared.Rejection.{Rejection}
use Rattle.wire.specs.declared.Rejection.TheVariants as Frame
use Rattle.wire.specs.declared.Fault.{Fault}
use Rattle.wire.specs.Frame.{Item, items, scanned, checked, frame_max}
use Rattle.wire.specs.declared.Version.{Version}
use Rattle.wire.proofs.Bounds.{bad_within, Low, LowRead, LowItems, read_low, low-items, low-from}
use Rattle.window.specs.declared.Standing.{Standing}
use Rattle.window.specs.declared.Standing.TheVariants.{Inside, New, Outside}
use Rattle.pieces.specs.declared.Order.{Order}
use Rattle.row.specs.declared.Row.{Row}
use Rattle.reassembly.specs.Rules as Rules
use Rattle.pieces.specs.Pieces.{bundle_max}
use Rattle.rows.specs.State.{sound}
use Rattle.rows.specs.Origin.{Origin}
use Rattle.rows.specs.Message.{Draft, draft, messages_from, Board, Handed, Outcome, handed_of, moved, in_row, treat_transfer, step}
use Rattle.receiver.specs.declared.Answer.{Answer}
use Rattle.receiver.specs.declared.Answer.TheVariants.{Delivered, Finished}
use Rattle.receiver.specs.declared.Refusal.{Refusal}
use Rattle.receiver.specs.Receive.{refusal_place, named, Reply, frame_refusal, unfit, replied, delivered, refusal, treat, receive_as}
use Rattle.receiver.proofs.Calls.{treat-answers}

-- ---- the place that a refusal names

abbrev Within : Option Refusal → Type 0
Within none = Unit {0}
Within (some q) = named (refusal_place q) < frame_max

frame-within : (c : Result (Unit {0}) Rejection) → ((q : Fault) (at : ℕ) → c ≡ Err (Frame.Malformed q at) → at < frame_max) → Within (frame_refusal c)
unfolding frame_refusal
frame-within (Ok u) h = tt
frame-within (Err (Frame.Malformed q at)) h = h q at refl
frame-within (Err Frame.Misplaced) h = omega arith

refusal_of : (o : Option Refusal) (b : Board) (output : List ℕ) (reply : Reply) (q : Refusal) → (replied o b output reply).answer ≡ Err q → (reply.answer ≡ Err q → ⊥) → o ≡ some q
unfolding replied
refusal_of none b output reply q e never = absurd (never e)
refusal_of (some r) b output reply q e never = cc

module _ (D : Draft) where
  unfit-within : (frame : List ℕ) (place : ℕ) → Within (unfit D frame place)
  unfit-within frame place =
      cond_elim Within (eqb (length frame) 0 || ltb frame_max (length frame)) (λ _. omega arith)
      λ z. frame-within (checked D.read frame place)
      λ q at e. omega (arith, bad_within D.read frame place q at e, ltb-false frame_max (length frame) (neither (eqb (length frame) 0) (ltb frame_max (length frame)) z).1)

  refusal_within : (w : ℕ) (b : Board) (frame : List ℕ) (place : ℕ) (output : List ℕ) → Within (refusal D w b frame place output)
  unfolding refusal
  refusal_within w b frame place output =
      cond_elim Within (not (sound b.state)) (λ _. omega arith)
      λ _. cond_elim Within (not (eqb (length b.pool) (w * bundle_max)) || ltb (length output) bundle_max) (λ _. omega arith)
      λ _. unfit-within frame place

  pub refused-for : (w : ℕ) (b : Board) (frame : List ℕ) (place : ℕ) (output : List ℕ) (q : Refusal) → (receive_as D w b frame place output).answer ≡ Err q → refusal D w b frame place output ≡ some q
  unfolding receive_as
  refused-for w b frame place output q e =
      refusal_of (refusal D w b frame place output) b output (treat D w b (messages_from D frame place) output) q e (treat-answers D w b (messages_from D frame place) output q)

  pub place-within : (w : ℕ) (b : Board) (frame : List ℕ) (place : ℕ) (output : List ℕ) (q : Refusal) → (receive_as D w b frame place output).answer ≡ Err q → named (refusal_place q) < frame_max
  place-within w b frame place output q e = rw (refused-for w b frame place output q e) at (refusal_within w b frame place output)

-- ---- the greatest number

module _ (w : ℕ) where
  transfer_low : (s : Standing) (rule : Row → List ℕ → Rules.Outcome) (b : Board) (t : ℕ) → b.state.greatest < 2 ^ 32 → t < 2 ^ 32
      → (treat_transfer w s rule b t).board.state.greatest < 2 ^ 32
  unfolding treat_transfer in_row moved
  transfer_low Inside rule b t g l = g
  transfer_low (New d) rule b t g l = l
  transfer_low Outside rule b t g l = g

  pub step-low : (order : Order) (b : Board) (m : Message) → b.state.greatest < 2 ^ 32 → Low m → (step w order b m).board.state.greatest < 2 ^ 32
  unfolding step Low
  step-low order b skipped g l = g
  step-low order b (bundle c) g l = g
  step-low order b (segment t i d) g l = transfer_low _ _ b t g l
  step-low order b (last t i d) g l = transfer_low _ _ b t g l
  step-low order b (cancel t) g l = transfer_low _ _ b t g l

  delivered-low : (o : Option Handed) (b : Board) (next : ℕ) (output : List ℕ) (later : Reply) → b.state.greatest < 2 ^ 32 → later.board.state.greatest < 2 ^ 32
      → (delivered o b next output later).board.state.greatest < 2 ^ 32
  unfolding delivered
  delivered-low none b next output later g l = l
  delivered-low (some h) b next output later g l = g

  module _ (D : Draft) where
    pub treat-low : (b : Board) (is : List Item) (output : List ℕ) → b.state.greatest < 2 ^ 32 → LowItems is → (treat D w b is output).board.state.greatest < 2 ^ 32
    unfolding treat LowItems
    treat-low b [] output g l = g
    treat-low b (i ∷ is) output g l =
        let o : Outcome = step w D.order b i.message in
        let h = step-low D.order b i.message g l.0 in
        delivered-low o.handed o.board i.next output (treat D w o.board is output) h (treat-low o.board is output h l.1)

    pub receive-low : ((xs : List ℕ) → Octets xs → LowRead (D.read xs)) → (b : Board) (frame : List ℕ) (place : ℕ) (output : List ℕ) → Octets frame → b.state.greatest < 2 ^ 32
        → (receive_as D w b frame place output).board.state.greatest < 2 ^ 32
    unfolding receive_as replied messages_from
    receive-low low_read b frame place output low g = go (refusal D w b frame place output)
      where
        go : (r : Option Refusal) → (replied r b output (treat D w b (messages_from D frame place) output)).board.state.greatest < 2 ^ 32
        go none = treat-low b (messages_from D frame place) output g (low-from place (items (scanned D.read frame)) (low-items D.read low_read frame low))
        go (some q) = g

  pub draft-low : (v : Version) (b : Board) (frame : List ℕ) (place : ℕ) (output : List ℕ) → Octets frame → b.state.greatest < 2 ^ 32 → (receive_as (draft v) w b frame place output).board.state.greatest < 2 ^ 32
  draft-low v = receive-low (draft v) (read_low v)

-- ---- the number that a bundle is answered with

abbrev pub LowOrigin : Origin → Type 0
LowOrigin None = Unit {0}
LowOrigin (Some t) = t < 2 ^ 32

abbrev LowHanded : Option Handed → Type 0
LowHanded none = Unit {0}
LowHanded (some h) = LowOrigin h.origin

abbrev pub LowAnswer : Result Answer Refusal → Type 0
LowAnswer (Ok (Delivered length next origin)) = LowOrigin origin
LowAnswer (Ok Finished) = Unit {0}
LowAnswer (Err q) = Unit {0}

low_handed : (t : ℕ) → t < 2 ^ 32 → (o : Option (List ℕ)) → LowHanded (handed_of (Some t) o)
unfolding handed_of
low_handed t l none = tt
low_handed t l (some octets) = l

module _ (w : ℕ) where
  transfer_hands : (s : Standing) (rule : Row → List ℕ → Rules.Outcome) (b : Board) (t : ℕ) → t < 2 ^ 32 → LowHanded (treat_transfer w s rule b t).handed
  unfolding treat_transfer in_row
  transfer_hands Inside rule b t l = low_handed t l _
  transfer_hands (New d) rule b t l = low_handed t l _
  transfer_hands Outside rule b t l = tt

  step_hands : (order : Order) (b : Board) (m : Message) → Low m → LowHanded (step w order b m).handed
  unfolding step Low handed_of
  step_hands order b skipped l = tt
  step_hands order b (bundle c) l = tt
  step_hands order b (segment t i d) l = transfer_hands _ _ b t l
  step_hands order b (last t i d) l = transfer_hands _ _ b t l
  step_hands order b (cancel t) l = transfer_hands _ _ b t l

  delivered_hands : (o : Option Handed) (b : Board) (next : ℕ) (output : List ℕ) (later : Reply) → LowHanded o → LowAnswer later.answer → LowAnswer (delivered o b next output later).answer
  unfolding delivered
  delivered_hands none b next output later h l = l
  delivered_hands (some h) b next output later l _ = l

  module _ (D : Draft) where
    treat_hands : (b : Board) (is : List Item) (output : List ℕ) → LowItems is → LowAnswer (treat D w b is output).answer
    unfolding treat LowItems
    treat_hands b [] output l = tt
    treat_hands b (i ∷ is) output l =
        let o : Outcome = step w D.order b i.message in
        delivered_hands o.handed o.board i.next output (treat D w o.board is output) (step_hands D.order b i.message l.0) (treat_hands o.board is output l.1)

    pub receive-hands : ((xs : List ℕ) → Octets xs → LowRead (D.read xs)) → (b : Board) (frame : List ℕ) (place : ℕ) (output : List ℕ) → Octets frame
        → LowAnswer (receive_as D w b frame place output).answer
    unfolding receive_as replied messages_from
    receive-hands low_read b frame place output low = go (refusal D w b frame place output)
      where
        go : (r : Option Refusal) → LowAnswer (replied r b output (treat D w b (messages_from D frame place) output)).answer
        go none = treat_hands b (messages_from D frame place) output (low-from place (items (scanned D.read frame)) (low-items D.read low_read frame low))
        go (some q) = tt
