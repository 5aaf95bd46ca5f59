-- The answers of the sending calls (document 01, "Sending calls"), with the numbers of "Numbers of refusal".
use Rattle.std.specs.Prelude.{ℕ, List, Result, Ok, Err}
use Rattle.framing.specs.declared.State.{State}
use Rattle.framing.specs.declared.Refusal.{Refusal}
use Rattle.framing.specs.declared.Refusal.TheVariants.{Unsound, WrongBuffer, BundleSize, OtherLength, NoTransfer, FrameSize}
use Rattle.framing.specs.declared.Answer.{Answer}
use Rattle.framing.specs.declared.Answer.TheVariants.{Placed, PlacedReady, Ready, Nothing}

-- An answer in document 01's words, a refusal by its number.
pub data Reply : Type 0 where
  placed : Reply
  placed_and_ready : Reply
  ready : Reply
  nothing : Reply
  refused : ℕ → Reply

abbrev pub refusal_number : Refusal → ℕ
refusal_number Unsound = 1
refusal_number WrongBuffer = 10
refusal_number BundleSize = 11
refusal_number OtherLength = 12
refusal_number NoTransfer = 13
refusal_number FrameSize = 14

unfoldable pub reply : Result Answer Refusal → Reply
reply (Ok Placed) = placed
reply (Ok PlacedReady) = placed_and_ready
reply (Ok Ready) = ready
reply (Ok Nothing) = nothing
reply (Err r) = refused (refusal_number r)

-- All that a call fixes: its answer, the state and every octet of the frame buffer.
pub record Outcome : Type 0 where
  pub answer : Reply
  pub state : State
  pub frame : List ℕ

-- what a call answered, and the state and the frame buffer as it left them
abbrev pub outcome : Result Answer Refusal → State → List ℕ → Outcome
outcome r s d = record { answer = reply r; state = s; frame = d }
