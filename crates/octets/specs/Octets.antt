-- Runs of octets: a number read and written, and a run written at an offset (document 01: "Numbers are big-endian").
use Rattle.std.specs.Prelude.{List, [], ◌∷◌, ◌++◌, ℕ, zero, suc, ◌+◌, ◌*◌, ◌/◌, ◌%◌, ◌<◌, length, get_or, take, drop}

-- each is an octet
abbrev pub Octets : List ℕ → Type 0
Octets xs = (k : ℕ) → get_or xs k 0 < 256

-- the number of 32 bits at the head
unfoldable pub number : List ℕ → ℕ
number xs = get_or xs 0 0 * 16777216 + get_or xs 1 0 * 65536 + get_or xs 2 0 * 256 + get_or xs 3 0

-- the four octets of a number below 2 ^ 32
unfoldable pub be32 : ℕ → List ℕ
be32 n = n / 16777216 ∷ n / 65536 % 256 ∷ n / 256 % 256 ∷ n % 256 ∷ []

-- the number of 16 bits at the head
unfoldable pub number16 : List ℕ → ℕ
number16 xs = get_or xs 0 0 * 256 + get_or xs 1 0

-- the two octets of a number below 2 ^ 16
unfoldable pub be16 : ℕ → List ℕ
be16 n = n / 256 % 256 ∷ n % 256 ∷ []

-- the first n numbers of 16 bits
unfoldable pub pairs : ℕ → List ℕ → List ℕ
pairs zero xs = []
pairs (suc n) xs = number16 xs ∷ pairs n (drop 2 xs)

-- numbers of 16 bits, one behind another
unfoldable pub spread : List ℕ → List ℕ
spread [] = []
spread (n ∷ ns) = be16 n ++ spread ns

unfoldable pub sum_of : List ℕ → ℕ
sum_of [] = 0
sum_of (x ∷ xs) = x + sum_of xs

-- the octets vs from `at` on; all other octets of d stay
unfoldable pub put : List ℕ → ℕ → List ℕ → List ℕ
put d at vs = take at d ++ vs ++ drop (at + length vs) d
