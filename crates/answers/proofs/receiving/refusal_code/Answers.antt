use mathlib.Core.Path.{◌≡◌, refl, ◌∙◌}
use Prim.Native.Nat.{ℕ}
use Rattle.wire.specs.declared.Fault.{Fault}
use Rattle.receiver.specs.declared.Refusal.{Refusal}
use Rattle.receiver.specs.declared.Refusal.TheVariants.{Unsound, BufferSize, FrameSize, Malformed, Misplaced}
use Rattle.receiver.specs.Receive.{refusal_number}
use Rattle.answers.specs.Receiver.{code}
use Rattle.answers.proofs.receiving.refusal_code.Goals as goal

-- a refusal that names no place
unplaced : (q : Refusal) → ((f : Fault) (at : ℕ) → q ≡ Malformed f at → ⊥) → refusal_number q ≡ code q
unplaced Unsound n = refl
unplaced BufferSize n = refl
unplaced FrameSize n = refl
unplaced (Malformed f at) n = absurd (n f at refl)
unplaced Misplaced n = refl

pub returns : goal.returns
returns c = c.from-number.ensures ∙ unplaced c.args.refusal c.in_default.not-Malformed
