-- A number that was written reads back: `number` and `be32`, `number16` and `be16` of specs/Octets.antt. What is made of octets is octets.
use mathlib.Core.Path.{◌≡◌, refl}
use mathlib.Core.List.{List, [], ◌∷◌, ◌++◌}
use Prim.Native.Nat.{ℕ, zero, suc, ◌+◌, ◌*◌, ◌/◌, ◌%◌, ◌≤◌, ◌<◌, ◌^◌}
use native.Mathlib.Omega.{arith}
use lib.ListN.{length, take, drop, replicate}
use lib.Seq.{get_or-drop}
use Rattle.octets.specs.Octets.{Octets, number, number16, be32, be16}

pub number-be32 : (n : ℕ) (l : List ℕ) → n < 2 ^ 32 → number (be32 n ++ l) ≡ n
unfolding number be32
number-be32 n l h = omega arith

pub length-be32 : (n : ℕ) → length (be32 n) ≡ 4
unfolding be32
length-be32 n = refl

pub number16-be16 : (n : ℕ) (l : List ℕ) → n < 2 ^ 16 → number16 (be16 n ++ l) ≡ n
unfolding number16 be16
number16-be16 n l h = omega arith

pub length-be16 : (n : ℕ) → length (be16 n) ≡ 2
unfolding be16
length-be16 n = refl

-- the two octets are those of the number's last 16 bits
pub be16-low : (n : ℕ) → be16 (n % 65536) ≡ be16 n
unfolding be16
be16-low n =
    let a : n % 65536 / 256 % 256 ≡ n / 256 % 256 = omega arith in
    let b : n % 65536 % 256 ≡ n % 256 = omega arith in
    rw (a, b)

-- octets that were read are written again

pub be32-back : (xs : List ℕ) → Octets xs → 4 ≤ length xs → be32 (number xs) ≡ take 4 xs
unfolding number be32
be32-back [] low h = absurd (omega arith)
be32-back (a ∷ []) low h = absurd (omega arith)
be32-back (a ∷ b ∷ []) low h = absurd (omega arith)
be32-back (a ∷ b ∷ c ∷ []) low h = absurd (omega arith)
be32-back (a ∷ b ∷ c ∷ d ∷ xs) low h =
    let n : ℕ = a * 16777216 + b * 65536 + c * 256 + d in
    let e₀ : n / 16777216 ≡ a = omega (arith, low 1, low 2, low 3) in
    let e₁ : n / 65536 % 256 ≡ b = omega (arith, low 1, low 2, low 3) in
    let e₂ : n / 256 % 256 ≡ c = omega (arith, low 2, low 3) in
    let e₃ : n % 256 ≡ d = omega (arith, low 3) in
    rw (e₀, e₁, e₂, e₃)

pub be16-back : (a b : ℕ) (xs : List ℕ) → a < 256 → b < 256 → be16 (number16 (a ∷ b ∷ xs)) ≡ a ∷ b ∷ []
unfolding number16 be16
be16-back a b xs ha hb =
    let e₀ : (a * 256 + b) / 256 % 256 ≡ a = omega arith in
    let e₁ : (a * 256 + b) % 256 ≡ b = omega arith in
    rw (e₀, e₁)

-- parts of octets are octets, and the number at their head has 32 bits

pub octets_drop : (n : ℕ) (xs : List ℕ) → Octets xs → Octets (drop n xs)
octets_drop n xs low k = rw get_or-drop (low (n + k))

pub octets_take : (n : ℕ) (xs : List ℕ) → Octets xs → Octets (take n xs)
octets_take zero xs low k = omega arith
octets_take (suc n) [] low k = low k
octets_take (suc n) (x ∷ xs) low zero = low 0
octets_take (suc n) (x ∷ xs) low (suc k) = octets_take n xs (λ i. low (suc i)) k

pub number-low : (xs : List ℕ) → Octets xs → number xs < 2 ^ 32
unfolding number
number-low xs low = omega (arith, low 0, low 1, low 2, low 3)

-- what is made of octets is octets

pub octets_append : (xs ys : List ℕ) → Octets xs → Octets ys → Octets (xs ++ ys)
octets_append [] ys p q k = q k
octets_append (x ∷ xs) ys p q zero = p 0
octets_append (x ∷ xs) ys p q (suc k) = octets_append xs ys (λ i. p (suc i)) q k

pub octets_zeros : (n : ℕ) → Octets (replicate n 0)
octets_zeros zero k = omega arith
octets_zeros (suc n) zero = omega arith
octets_zeros (suc n) (suc k) = octets_zeros n k

pub octets_be32 : (n : ℕ) → n < 2 ^ 32 → Octets (be32 n)
unfolding be32
octets_be32 n h zero = omega arith
octets_be32 n h (suc zero) = omega arith
octets_be32 n h (suc (suc zero)) = omega arith
octets_be32 n h (suc (suc (suc zero))) = omega arith
octets_be32 n h (suc (suc (suc (suc k)))) = omega arith

pub octets_be16 : (n : ℕ) → Octets (be16 n)
unfolding be16
octets_be16 n zero = omega arith
octets_be16 n (suc zero) = omega arith
octets_be16 n (suc (suc k)) = omega arith
