-- The settings of a board stay, whatever calls come.
use mathlib.Core.Path.{◌≡◌, refl, ap, ◌∙◌}
use mathlib.Core.Option.{Option, none, some}
use mathlib.Core.List.{List, [], ◌∷◌}
use Prim.Native.Nat.{ℕ}
use Rattle.wire.specs.declared.Version.{Version}
use Rattle.wire.specs.Frame.{Item}
use Rattle.rows.specs.Message.{Draft, draft, Board, Handed, Outcome, step, messages_from}
use Rattle.rows.specs.declared.Settings.{Settings}
use Rattle.rows.proofs.Keeping.{settings_of, step_keeps}
use Rattle.receiver.specs.declared.Refusal.{Refusal}
use Rattle.receiver.specs.Receive.{Reply, replied, delivered, refusal, treat, receive_as, receive}

module _ (w : ℕ) (D : Draft) where
  treat_keeps : (b : Board) (is : List Item) (output : List ℕ) → settings_of (treat D w b is output).board ≡ settings_of b
  unfolding treat delivered
  treat_keeps b [] output = refl
  treat_keeps b (i ∷ is) output =
      let o : Outcome = step w D.order b i.message in
      let s = step_keeps w D.order b i.message in
      delivered-keeps o.handed o.board i.next (treat D w o.board is output) s (treat_keeps o.board is output ∙ s)
    where
      delivered-keeps : (h : Option Handed) (c : Board) (next : ℕ) (later : Reply) → settings_of c ≡ settings_of b → settings_of later.board ≡ settings_of b → settings_of (delivered h c next output later).board ≡ settings_of b
      delivered-keeps none c next later p q = q
      delivered-keeps (some h) c next later p q = p

  pub receive-keeps : (b : Board) (frame : List ℕ) (place : ℕ) (output : List ℕ) → settings_of (receive_as D w b frame place output).board ≡ settings_of b
  unfolding receive_as replied
  receive-keeps b frame place output = go (refusal D w b frame place output)
    where
      go : (r : Option Refusal) → settings_of (replied r b output (treat D w b (messages_from D frame place) output)).board ≡ settings_of b
      go none = treat_keeps b (messages_from D frame place) output
      go (some r) = refl

-- a call of a board that is set to a draft and a window is theirs
pub receive-as : (v : Version) (w : ℕ) (b : Board) (frame : List ℕ) (place : ℕ) (output : List ℕ) → settings_of b ≡ record { version = v; window = w }
    → receive b frame place output ≡ receive_as (draft v) w b frame place output
receive-as v w b frame place output e = ap (λ (s : Settings). receive_as (draft s.version) s.window b frame place output) e
