-- Numbers of 16 bits one behind another: `pairs` and `spread` of specs/Octets.antt.
--     spread-turn, spread_end   a loop that writes them
--     pairs-put, pair_at   a loop that reads them from parts of two octets
--     pairs-take, pairs-part   numbers of a part; pairs_full: numbers that fill an array
--     length_pairs, length-spread   how many there are
--     pairs-back, spread-back   numbers that were written read back, octets that were read are written again
use mathlib.Core.Path.{◌≡◌, refl, sym, ap, ◌∙◌}
use mathlib.Core.List.{List, [], ◌∷◌, ◌++◌}
use Prim.Native.Nat.{ℕ, zero, suc, ◌+◌, ◌-◌, ◌*◌, ◌/◌, ◌≤◌, ◌<◌, ◌^◌}
use native.Mathlib.Numerals.{add-one}
use native.Mathlib.Omega.{arith}
use lib.ListN.{length, get_or, take, drop, set, replicate, length-drop, length-replicate}
use lib.Seq.{length-take-le}
use Rattle.std.specs.Simd.{first_chunks}
use Rattle.octets.specs.Octets.{Octets, number16, be16, pairs, spread, put}
use Rattle.octets.proofs.Numbers.{length-be16, number16-be16, be16-back}
use Rattle.octets.proofs.Put.{put_next, put_whole}
use Rattle.octets.proofs.Series.{chunk_at, read-last, write-turn, write-end, length-items}

pub pairs-last : (n : ℕ) (xs : List ℕ) → pairs (n + 1) xs ≡ pairs n xs ++ (number16 (drop (n * 2) xs) ∷ [])
unfolding pairs
pairs-last n xs = rw (add-one n) (read-last 2 number16 pairs (λ xs. refl) (λ n xs. refl) n xs)

pub spread-turn : (d d' d'' items : List ℕ) (at k : ℕ) → d' ≡ put d at (spread (take k items)) → length (spread (take k items)) ≡ k * 2
    → k < length items → at + k * 2 + 2 ≤ length d → d'' ≡ put d' (at + k * 2) (be16 (get_or items k 0))
    → (d'' ≡ put d at (spread (take (k + 1) items))) × (length (spread (take (k + 1) items)) ≡ (k + 1) * 2)
unfolding spread
spread-turn d d' d'' items at k e l = write-turn be16 spread refl (λ x xs. refl) 2 d d' d'' items at k 0 e l (length-be16 (get_or items k 0))

pub spread_end : (d d' items : List ℕ) (at k : ℕ) → d' ≡ put d at (spread (take k items)) → length items ≤ k → d' ≡ put d at (spread items)
unfolding spread
spread_end = write-end be16 spread refl (λ x xs. refl)

pub length-spread : (ns : List ℕ) → length (spread ns) ≡ length ns * 2
unfolding spread
length-spread ns = length-items be16 spread refl (λ x xs. refl) 2 ns (λ k z h. length-be16 (get_or ns k z))

pub pairs-back : (ns xs : List ℕ) (n : ℕ) → length ns ≡ n → ((k : ℕ) → k < length ns → get_or ns k 0 < 2 ^ 16) → pairs n (spread ns ++ xs) ≡ ns
unfolding pairs spread be16
pairs-back [] xs zero e low = refl
pairs-back [] xs (suc n) e low = absurd (omega arith)
pairs-back (x ∷ ns) xs zero e low = absurd (omega arith)
pairs-back (x ∷ ns) xs (suc n) e low =
    rw (number16-be16 x (spread ns ++ xs) (low 0 (omega arith)), pairs-back ns xs n (omega arith) (λ k h. low (suc k) (omega arith)))

pub length_pairs : (n : ℕ) (xs : List ℕ) → length (pairs n xs) ≡ n
unfolding pairs
length_pairs zero xs = refl
length_pairs (suc n) xs = ap suc (length_pairs n (drop 2 xs))

pub spread-back : (n : ℕ) (xs : List ℕ) → Octets xs → n * 2 ≤ length xs → spread (pairs n xs) ≡ take (n * 2) xs
unfolding pairs spread
spread-back zero xs low h = refl
spread-back (suc n) [] low h = absurd (omega arith)
spread-back (suc n) (a ∷ []) low h = absurd (omega arith)
spread-back (suc n) (a ∷ b ∷ xs) low h =
    let e : suc n * 2 ≡ suc (suc (n * 2)) = omega arith in
    rw (be16-back a b xs (low 0) (low 1), spread-back n xs (λ k. low (suc (suc k))) (omega arith), e)

pub pairs-put : (d xs : List ℕ) (k v : ℕ) → k < length d → v ≡ number16 (drop (k * 2) xs) → set (put d 0 (pairs k xs)) k v ≡ put d 0 (pairs (k + 1) xs)
pairs-put d xs k v h e =
    let p = put_next d (pairs k xs) v (rw length_pairs h) in
    ap (λ (j : ℕ). set (put d 0 (pairs k xs)) j v) (sym (length_pairs k xs)) ∙ p ∙ rw (e, pairs-last k xs)

-- the number of a part of two octets
number16-take : (xs : List ℕ) → number16 (take 2 xs) ≡ number16 xs
unfolding number16
number16-take [] = refl
number16-take (a ∷ []) = refl
number16-take (a ∷ b ∷ xs) = refl

pub pair_at : (k n : ℕ) (xs : List ℕ) → k < n → number16 (get_or (first_chunks 2 n xs) k []) ≡ number16 (drop (k * 2) xs)
pair_at k n xs h = rw (chunk_at 2 k n xs h) (number16-take (drop (k * 2) xs))

pub pairs-take : (n : ℕ) (xs : List ℕ) → pairs n (take (n * 2) xs) ≡ pairs n xs
unfolding pairs number16
pairs-take zero xs = refl
pairs-take (suc n) [] = let e : suc n * 2 ≡ suc (suc (n * 2)) = omega arith in rw e refl
pairs-take (suc n) (a ∷ []) = let e : suc n * 2 ≡ suc (suc (n * 2)) = omega arith in rw e refl
pairs-take (suc n) (a ∷ b ∷ xs) = let e : suc n * 2 ≡ suc (suc (n * 2)) = omega arith in rw (e, pairs-take n xs)

pub pairs-part : (n at end : ℕ) (xs : List ℕ) → end ≡ at + n * 2 → end ≤ length xs
    → pairs (length (take (end - at) (drop at xs)) / 2) (take (end - at) (drop at xs)) ≡ pairs n (drop at xs)
pairs-part n at end xs e h =
    let size : end - at ≡ n * 2 = omega arith in
    let half : n * 2 / 2 ≡ n = omega arith in
    let all : length (take (n * 2) (drop at xs)) ≡ n * 2 = length-take-le (n * 2) (drop at xs) (rw length-drop (omega arith)) in
    rw (size, all, half) (pairs-take n (drop at xs))

-- numbers that fill an array
pub pairs_full : (n : ℕ) (xs : List ℕ) → length xs ≡ n * 2 → put (replicate n 0) 0 (pairs (length xs / 2) xs) ≡ pairs n xs
pairs_full n xs e =
    let half : n * 2 / 2 ≡ n = omega arith in
    rw (e, half) (put_whole (replicate n 0) (pairs n xs) (rw (length_pairs, length-replicate)))
