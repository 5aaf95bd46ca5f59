-- The settings of a board stay, whatever messages come.
use mathlib.Core.Path.{◌≡◌, refl, ◌∙◌}
use mathlib.Core.Option.{Option, none, some}
use mathlib.Core.List.{List, [], ◌∷◌}
use Prim.Native.Nat.{ℕ}
use lib.ListN.{length}
use Rattle.octets.proofs.Flags.{cond_elim}
use Rattle.wire.specs.Frame.{Item}
use Rattle.pieces.specs.declared.Order.{Order}
use Rattle.rows.specs.Message.{Board, Handed, step}
use Rattle.rows.proofs.Keeping.{settings_of, step_keeps}
use Rattle.messages.specs.declared.Limits.{Limits}
use Rattle.messages.specs.Run.{Run, advanced, roomy, run}

advanced_board : (p : Run) (b : Board) (next : ℕ) (h : Option Handed) → (advanced p b next h).board ≡ b
unfolding advanced
advanced_board p b next none = refl
advanced_board p b next (some h) = refl

module _ (w : ℕ) (order : Order) (limits : Limits) where
  pub run-keeps : (p : Run) (is : List Item) → settings_of (run w order limits p is).board ≡ settings_of p.board
  unfolding run
  run-keeps p [] = refl
  run-keeps p (i ∷ is) =
      cond_elim (λ (q : Run). settings_of q.board ≡ settings_of p.board) (roomy p.progress limits (length p.output))
      (λ _. run-keeps (advanced p (step w order p.board i.message).board i.next (step w order p.board i.message).handed) is ∙ rw (advanced_board p (step w order p.board i.message).board i.next (step w order p.board i.message).handed) (step_keeps w order p.board i.message))
      λ _. refl
