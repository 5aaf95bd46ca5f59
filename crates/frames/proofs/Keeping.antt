-- The settings of a board stay over single calls.
use mathlib.Core.Path.{◌≡◌, refl, ◌∙◌}
use mathlib.Core.Bool.{Bool}
use mathlib.Core.List.{List}
use Prim.Native.Nat.{ℕ}
use Rattle.rows.specs.Message.{Draft, Board, Handed}
use Rattle.rows.proofs.Keeping.{settings_of}
use Rattle.receiver.proofs.Keeping.{receive-keeps}
use Rattle.frames.specs.Frames.{Note}
use Rattle.frames.specs.Singles.{Singles, over, stops, delivers, finishes, refuses}

module _ (D : Draft) (w : ℕ) (room : ℕ → ℕ → Bool) where
  pub singles-keep : {k place count used k' place' : ℕ} {fs : List (List ℕ)} {b after : Board} {hs : List Handed} {ns : List Note}
      → Singles D w room k fs b place count used hs ns after k' place' → settings_of after ≡ settings_of b
  singles-keep over = refl
  singles-keep (stops e p) = refl
  singles-keep (delivers {place = place} {f = f} {b = b} output size next origin big free a s) = singles-keep s ∙ receive-keeps w D b f place output
  singles-keep (finishes {place = place} {f = f} {b = b} output big free a s) = singles-keep s ∙ receive-keeps w D b f place output
  singles-keep (refuses output q big free a s) = singles-keep s
