-- `btpu_receive` ignores reserved flag bits on a board of draft 02: frames that differ in them alone get the same number, and leave the same
-- octets in image, pool, output and result. Refusal 5 is never given.
use mathlib.Core.Path.{◌≡◌, sym, ◌∙◌}
use mathlib.Core.Bool.{Bool, true, false, cond}
use mathlib.Core.List.{List}
use Prim.Native.Nat.{ℕ}
use native.Mathlib.Omega.{arith}
use lib.ListN.{get_or}
use Rattle.std.proofs.Common.{Err, Ok, Result}
use Rattle.wire.specs.declared.Version.TheVariants.{Draft02}
use Rattle.wire.specs.Reserved.{SameButReserved}
use Rattle.receiver.specs.declared.Answer.{Answer}
use Rattle.receiver.specs.declared.Refusal.{Refusal}
use Rattle.receiver.specs.declared.Answer.TheVariants.{Delivered, Finished}
use Rattle.rows.specs.Message.{Board}
use Rattle.receiver.specs.Receive.{Reply, receive}
use Rattle.receiver.proofs.Refusals as Refusals
use Rattle.receiver.proofs.Reserved as Receiver
use Rattle.images.specs.Receiver.{version_of, is_image, state_of}
use Rattle.answers.specs.Receiver.{status, number_in}
use Rattle.answers.proofs.Codes.{number-back}
use Rattle.board.specs.Receiver.{exported, received}

abbrev on : List ℕ → List ℕ → Board
on image pool = record { state = state_of image; pool = pool }

pub reserved_ignored : (image pool : List ℕ) {f g : List ℕ} → version_of (get_or image 2 0) ≡ Draft02 → SameButReserved f g → (place : ℕ) (output result : List ℕ)
    → received image pool f place output result ≡ received image pool g place output result
unfolding received state_of
reserved_ignored image pool e r place output result = rw (Receiver.reserved_ignored (on image pool) e r place output)

not_five : (a : Result Answer Refusal) → number_in (status a) ≡ 5 → ⊥
not_five (Ok (Delivered length next origin)) e = omega arith
not_five (Ok Finished) e = omega arith
not_five (Err q) e = Refusals.never_five q (sym (number-back q) ∙ e)

pub never_five : (image pool frame : List ℕ) (place : ℕ) (output result : List ℕ) → number_in (received image pool frame place output result).status ≡ 5 → ⊥
unfolding received exported
never_five image pool frame place output result = go (is_image image)
  where
    r : Reply
    r = receive (on image pool) frame place output

    go : (b : Bool) → number_in (cond b (exported r image result) (record { status = 1; image = image; pool = pool; output = output; result = result })).status ≡ 5 → ⊥
    go true e = not_five r.answer e
    go false e = omega arith
