-- A sender's state that was written to an image reads back, so a host can keep the image over a restart. Sound states fit an image.
use mathlib.Core.Bool.{true, false}
use mathlib.Core.Logic.{⊎_elim}
use mathlib.Core.List.{[], List}
use Rattle.std.specs.Prelude.{Some, None}
use mathlib.Core.Path.{◌≡◌}
use Prim.Native.Nat.{ℕ, ◌<◌, ◌^◌}
use native.Mathlib.Omega.{arith}
use Rattle.octets.specs.Octets.{be16, be32}
use Rattle.octets.proofs.Flags.{bool}
use Rattle.octets.proofs.Numbers.{number-be32, number16-be16}
use Rattle.framing.specs.declared.State.{State}
use Rattle.sender.specs.Sound.{sound}
use Rattle.sender.proofs.Facts.{in-range, in-transfer, at_rest, index-few}
use Rattle.images.proofs.Decoding.{some_read, none_read}
use Rattle.images.specs.Sender.{is_image, state_of, read, image_of}
use Rattle.images.proofs.ReceiverImages.{flag-back, flag-low, version_back, version_low}

-- a state whose numbers fit their octets
pub record StateFits (s : State) : Type 0 where
  pub size : s.size < 2 ^ 16
  pub fill : s.fill < 2 ^ 16
  pub next : s.next < 2 ^ 32
  pub number : s.number < 2 ^ 32
  pub length : s.length < 2 ^ 16
  pub placed : s.placed < 2 ^ 16
  pub index : s.index < 2 ^ 32

pub state_back : (s : State) → StateFits s → state_of (image_of s) ≡ s
unfolding state_of image_of be16 be32
state_back s f =
    rw (
      number16-be16 s.size _ f.size,
      number16-be16 s.fill _ f.fill,
      number-be32 s.next _ f.next,
      flag-back s.begun,
      number-be32 s.number _ f.number,
      number16-be16 s.length _ f.length,
      number16-be16 s.placed _ f.placed,
      number-be32 s.index [] f.index,
      version_back s.version,
    )

pub image-of-is : (s : State) → is_image (image_of s) ≡ true
unfolding is_image image_of be16 be32
image-of-is s = rw (flag-low s.begun, version_low s.version)

pub sound_state_fits : (s : State) → sound s ≡ true → s.next < 2 ^ 32 → s.number < 2 ^ 32 → StateFits s
sound_state_fits s e n t = ⊎_elim busy idle (bool s.begun)
  where
    fits : s.length < 2 ^ 16 → s.placed < 2 ^ 16 → s.index < 2 ^ 32 → StateFits s
    fits l p i = let r = in-range s e in record { size = omega arith; fill = omega arith; next = n; number = t; length = l; placed = p; index = i }

    busy : s.begun ≡ true → StateFits s
    busy b =
        let f = in-transfer s e b in
        let u = f.counted in
        let i = index-few f.indexes (in-range s e) u in
        fits (omega arith) (omega arith) (omega arith)

    idle : s.begun ≡ false → StateFits s
    idle b = let f = at_rest s e b in fits (omega arith) (omega arith) (omega arith)

-- what reading an image says of it
pub read-some : (xs : List ℕ) (s : State) → Some s ≡ read xs → (is_image xs ≡ true) × (state_of xs ≡ s)
unfolding read
read-some xs = some_read (is_image xs)

pub read-none : (xs : List ℕ) → None ≡ read xs → is_image xs ≡ false
unfolding read
read-none xs = none_read (is_image xs) (state_of xs)
