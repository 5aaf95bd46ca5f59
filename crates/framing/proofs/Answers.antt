-- An answer is determined by its words and number.
use Rattle.std.proofs.Common.{◌≡◌, cond, eqb, sym, refl, ap, ◌∙◌, Result, Ok, Err}
use Rattle.framing.specs.declared.Refusal.{Refusal}
use Rattle.framing.specs.declared.Refusal.TheVariants.{Unsound, WrongBuffer, BundleSize, OtherLength, NoTransfer, FrameSize}
use Rattle.framing.specs.declared.Answer.{Answer}
use Rattle.framing.specs.declared.Answer.TheVariants.{Placed, PlacedReady, Ready, Nothing}
use Rattle.framing.specs.Answers.{Reply, placed, placed_and_ready, ready, nothing, refused, reply}

answer_of : Reply → Result Answer Refusal
answer_of placed = Ok Placed
answer_of placed_and_ready = Ok PlacedReady
answer_of ready = Ok Ready
answer_of nothing = Ok Nothing
answer_of (refused n) =
    Err (cond (eqb n 1) Unsound (cond (eqb n 10) WrongBuffer (cond (eqb n 11) BundleSize (cond (eqb n 12) OtherLength (cond (eqb n 13) NoTransfer FrameSize)))))

answer_back : (a : Result Answer Refusal) → answer_of (reply a) ≡ a
unfolding reply answer_of
answer_back (Ok Placed) = refl
answer_back (Ok PlacedReady) = refl
answer_back (Ok Ready) = refl
answer_back (Ok Nothing) = refl
answer_back (Err Unsound) = refl
answer_back (Err WrongBuffer) = refl
answer_back (Err BundleSize) = refl
answer_back (Err OtherLength) = refl
answer_back (Err NoTransfer) = refl
answer_back (Err FrameSize) = refl

pub same_answer : (a b : Result Answer Refusal) → reply a ≡ reply b → a ≡ b
same_answer a b e = sym (answer_back a) ∙ ap answer_of e ∙ answer_back b
