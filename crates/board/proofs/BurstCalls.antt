-- The burst call on images: what a refused image and a taken one give.
use mathlib.Core.Bool.{true, false}
use mathlib.Core.List.{List}
use mathlib.Core.Path.{◌≡◌}
use Prim.Native.Nat.{ℕ}
use Rattle.std.proofs.Common.{Result}
use Rattle.rows.specs.State.{window_of}
use Rattle.rows.specs.declared.State.{State}
use Rattle.rows.specs.Message.{draft_of}
use Rattle.burst.specs.declared.Refusal.{Refusal}
use Rattle.burst.specs.declared.Taken.{Taken}
use Rattle.burst.specs.Burst.{Lists, reply, receive_burst}
use Rattle.images.specs.Receiver.{is_image, state_of}
use Rattle.answers.specs.Burst.{status, report, kept}
use Rattle.board.specs.Burst.{Exported, exported, burst}

pub image-refused : (image pool sizes octets : List ℕ) (frame place : ℕ) (l : Lists) (result : List ℕ) → is_image image ≡ false
    → ◌≡◌ {A = Exported} (record { status = 1; image = image; pool = pool; lists = l; result = result }) (burst image pool sizes octets frame place l result)
unfolding burst
image-refused image pool sizes octets frame place l result e = rw e

-- what the parts of the call leave, put together
pub image-taken : (image pool sizes octets : List ℕ) (frame place : ℕ) (l : Lists) (result : List ℕ) → is_image image ≡ true → (s : State) → s ≡ state_of image
    → (answer : Result Taken Refusal) (s' : State) (pool' : List ℕ) (l' : Lists) → reply answer s' pool' l' ≡ receive_burst (draft_of s) (window_of s) (record { state = s; pool = pool }) sizes octets frame place l
    → (n : ℕ) (image' result' : List ℕ) → n ≡ status answer → image' ≡ kept answer image s' → result' ≡ report answer result
    → ◌≡◌ {A = Exported} (record { status = n; image = image'; pool = pool'; lists = l'; result = result' }) (burst image pool sizes octets frame place l result)
unfolding burst exported
image-taken image pool sizes octets frame place l result e s es answer s' pool' l' er n image' result' en ei eo =
    rw (e, ← es, ← er, en, ei, eo)
