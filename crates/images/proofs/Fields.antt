-- The sender's state as octets.
use mathlib.Core.List.{List, [], ◌∷◌, ◌++◌}
use mathlib.Core.Path.{◌≡◌, refl, ◌∙◌}
use Prim.Native.Nat.{ℕ}
use native.Mathlib.Omega.{arith}
use lib.ListN.{length}
use Rattle.octets.specs.Octets.{be16, be32, put}
use Rattle.octets.proofs.Put.{put-put, put_whole}
use Rattle.framing.specs.declared.State.{State}
use Rattle.images.specs.Receiver.{flag, version_code}
use Rattle.images.specs.Sender.{image_size, image_of}

pub state_written : (d d₁ d₂ d₃ d₄ d₅ d₆ d₇ d₈ : List ℕ) (s : State) (f g : ℕ) → f ≡ flag s.begun → g ≡ version_code s.version → length d ≡ image_size → d₁ ≡ put d 0 (be16 s.size)
    → d₂ ≡ put d₁ 2 (be16 s.fill) → d₃ ≡ put d₂ 4 (be32 s.next) → d₄ ≡ put d₃ 8 (f ∷ g ∷ 0 ∷ 0 ∷ []) → d₅ ≡ put d₄ 12 (be32 s.number)
    → d₆ ≡ put d₅ 16 (be16 s.length) → d₇ ≡ put d₆ 18 (be16 s.placed) → d₈ ≡ put d₇ 20 (be32 s.index) → d₈ ≡ image_of s
unfolding image_of be16 be32
state_written d d₁ d₂ d₃ d₄ d₅ d₆ d₇ d₈ s f g ef eg full e₁ e₂ e₃ e₄ e₅ e₆ e₇ e₈ =
    let x₁ : List ℕ = be16 s.size in
    let x₂ : List ℕ = x₁ ++ be16 s.fill in
    let x₃ : List ℕ = x₂ ++ be32 s.next in
    let x₄ : List ℕ = x₃ ++ (flag s.begun ∷ version_code s.version ∷ 0 ∷ 0 ∷ []) in
    let x₅ : List ℕ = x₄ ++ be32 s.number in
    let x₆ : List ℕ = x₅ ++ be16 s.length in
    let x₇ : List ℕ = x₆ ++ be16 s.placed in
    let a₂ : d₂ ≡ put d 0 x₂ = e₂ ∙ rw e₁ (put-put d 0 2 x₁ (be16 s.fill) refl (omega arith)) in
    let a₃ : d₃ ≡ put d 0 x₃ = e₃ ∙ rw a₂ (put-put d 0 4 x₂ (be32 s.next) refl (omega arith)) in
    let a₄ : d₄ ≡ put d 0 x₄ = e₄ ∙ rw (ef, eg, a₃) (put-put d 0 8 x₃ (flag s.begun ∷ version_code s.version ∷ 0 ∷ 0 ∷ []) refl (omega arith)) in
    let a₅ : d₅ ≡ put d 0 x₅ = e₅ ∙ rw a₄ (put-put d 0 12 x₄ (be32 s.number) refl (omega arith)) in
    let a₆ : d₆ ≡ put d 0 x₆ = e₆ ∙ rw a₅ (put-put d 0 16 x₅ (be16 s.length) refl (omega arith)) in
    let a₇ : d₇ ≡ put d 0 x₇ = e₇ ∙ rw a₆ (put-put d 0 18 x₆ (be16 s.placed) refl (omega arith)) in
    let a₈ : d₈ ≡ put d 0 (x₇ ++ be32 s.index) = e₈ ∙ rw a₇ (put-put d 0 20 x₇ (be32 s.index) refl (omega arith)) in
    a₈ ∙ put_whole d (x₇ ++ be32 s.index) (omega arith)
