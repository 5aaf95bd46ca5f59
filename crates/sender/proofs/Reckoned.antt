-- Draft 00: the index of a piece is reckoned from the octets that remain behind it. c is P-12, m the octets that remain.
use mathlib.Core.Path.{◌≡◌, ap, ◌∙◌}
use Prim.Native.Nat.{ℕ, ◌+◌, ◌-◌, ◌/◌, ◌≤◌, ◌<◌}
use native.Mathlib.Omega.{arith}
use native.Mathlib.Nat.{add-div_right, div-lt_iff_lt-mul, le-div_iff_mul-le}
use Rattle.framing.specs.Placing.{bundle_max, rounded_up}

-- octets remain: a piece is left
pub some_left : (m c : ℕ) → 1 ≤ c → 1 ≤ m → 1 ≤ rounded_up m c
some_left m c l h = (le-div_iff_mul-le l).1 (omega arith)

-- they fit a piece: it is the last, of index 0
pub last-index : (m c : ℕ) → 1 ≤ c → 1 ≤ m → m ≤ c → rounded_up m c - 1 ≡ 0
last-index m c l h k = let q : rounded_up m c < 2 = (div-lt_iff_lt-mul {k = c} l).1 (omega arith) in omega (arith, some_left m c l h)

-- a whole piece less
pub one_less : (m n c : ℕ) → 1 ≤ c → m ≡ n + c → rounded_up m c ≡ rounded_up n c + 1
one_less m n c l e = let q : m + (c - 1) ≡ n + (c - 1) + c = omega arith in ap (λ (j : ℕ). j / c) q ∙ add-div_right (n + (c - 1)) l

-- they don't: behind a whole piece the index is one less, and it is above 0
pub next-index : (m c : ℕ) → 1 ≤ c → c < m → (1 ≤ rounded_up m c - 1) × (rounded_up (m - c) c - 1 ≡ rounded_up m c - 1 - 1)
next-index m c l h =
    let e : rounded_up m c ≡ rounded_up (m - c) c + 1 = one_less m (m - c) c l (omega arith) in
    let s : 1 ≤ rounded_up (m - c) c = some_left (m - c) c l (omega arith) in
    (omega arith, omega arith)

-- a start's index, of at most 4,096 octets in frames of at least 128
pub few_pieces : (m c : ℕ) → m < bundle_max → 116 ≤ c → rounded_up m c ≤ 63
few_pieces m c h l = let q : rounded_up m c < 64 = (div-lt_iff_lt-mul {k = c} (omega arith)).1 (omega arith) in omega arith
