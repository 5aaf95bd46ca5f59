-- The receiver's state as octets.
use mathlib.Core.List.{List, [], ◌∷◌, ◌++◌}
use mathlib.Core.Path.{◌≡◌, refl, ◌∙◌}
use Prim.Native.Nat.{ℕ, zero, suc, ◌+◌, ◌*◌, ◌/◌, ◌%◌, ◌≤◌, ◌<◌}
use native.Mathlib.Omega.{arith}
use lib.ListN.{length, get_or, take, drop, set, length-append, length-drop}
use lib.Seq.{drop-drop, take_all}
use Rattle.std.specs.Simd.{first_chunks}
use Rattle.std.specs.List.{list_all}
use Rattle.std.proofs.lemmas.List.{get_or-take, drop-take, take-take}
use Rattle.octets.specs.Octets.{be32, pairs, spread, put}
use Rattle.octets.proofs.Put.{put_whole, put-put}
use Rattle.octets.proofs.Series.{chunk_at, read-turn, read-end, write-turn}
use Rattle.octets.proofs.Pairs.{length-spread, pairs-take}
use Rattle.row.specs.declared.Row.{Row}
use Rattle.row.proofs.Shaped.{Shaped}
use Rattle.rows.specs.declared.State.{State}
use Rattle.rows.specs.State.{window_of, row_max}
use Rattle.images.specs.Receiver.{image_size, row_size, is_row, row_of, are_rows, rows_of, phase_code, version_code, flag, row_image, rows_image, image_of}

-- ---- the tests

-- the parts of the octets behind the first eight
pub parts_of : (n : ℕ) (xs : List ℕ) → length xs ≡ 8 + n * row_size
    → first_chunks row_size (length (take (n * row_size) (drop 8 xs)) / row_size) (take (n * row_size) (drop 8 xs)) ≡ first_chunks row_size n (drop 8 xs)
parts_of n xs e =
    let full : length (drop 8 xs) ≡ n * row_size = rw length-drop (omega arith) in
    let whole : take (n * row_size) (drop 8 xs) ≡ drop 8 xs = take_all (n * row_size) (drop 8 xs) (omega arith) in
    let count : n * row_size / row_size ≡ n = omega arith in
    rw (whole, full, count)

is_row-take : (xs : List ℕ) → is_row (take row_size xs) ≡ is_row xs
unfolding is_row
is_row-take xs = rw (get_or-take row_size xs 0 0 (omega arith), get_or-take row_size xs 1 0 (omega arith))

pub rows_all : (n : ℕ) (xs : List ℕ) → list_all is_row (first_chunks row_size n xs) ≡ are_rows n xs
unfolding are_rows
rows_all zero xs = refl
rows_all (suc n) xs = rw (is_row-take xs, rows_all n (drop row_size xs))

-- ---- from octets

row_of-take : (xs : List ℕ) → row_of (take row_size xs) ≡ row_of xs
unfolding row_of
row_of-take xs =
    let i : take 64 (drop 4 (take row_size xs)) ≡ take 64 (drop 4 xs) = rw (drop-take 4 192 xs) (take-take 64 192 (drop 4 xs) (omega arith)) in
    let l : pairs 64 (drop 68 (take row_size xs)) ≡ pairs 64 (drop 68 xs) = rw (drop-take 68 128 xs) (pairs-take 64 (drop 68 xs)) in
    rw (i, l, get_or-take row_size xs 0 0 (omega arith), get_or-take row_size xs 1 0 (omega arith), get_or-take row_size xs 2 0 (omega arith), get_or-take row_size xs 3 0 (omega arith))

-- the row of a part of the rows' octets
pub row_at : (at k n : ℕ) (xs : List ℕ) → k < n → row_of (get_or (first_chunks row_size n (drop at xs)) k []) ≡ row_of (drop (at + k * row_size) xs)
row_at at k n xs h = rw (chunk_at row_size k n (drop at xs) h) (row_of-take (drop (k * row_size) (drop at xs)) ∙ rw (drop-drop (k * row_size) at xs))

pub rows_turn : (items : List Row) (xs : List ℕ) (at k : ℕ) (v : Row) → take k items ≡ rows_of k (drop at xs) → k < length items → v ≡ row_of (drop (at + k * row_size) xs)
    → take (k + 1) (set items k v) ≡ rows_of (k + 1) (drop at xs)
unfolding rows_of
rows_turn = read-turn row_size row_of rows_of (λ xs. refl) (λ n xs. refl)

pub rows_end : (items : List Row) (xs : List ℕ) (k n : ℕ) → take k items ≡ rows_of k xs → length items ≡ n → n ≡ k → items ≡ rows_of n xs
unfolding rows_of
rows_end = read-end row_size row_of rows_of (λ xs. refl) (λ n xs. refl)

-- ---- to octets

pub length-row : (r : Row) → Shaped r → length (row_image r) ≡ row_size
unfolding row_image
length-row r z = simp length-append (omega (arith, length-spread r.lengths, z.indexes64, z.lengths64))

-- a row written in three parts
pub row_written : (d d₁ d₂ d₃ : List ℕ) (at : ℕ) (r : Row) → Shaped r → (code known : ℕ) → code ≡ phase_code r.phase → known ≡ flag r.known → at + row_size ≤ length d
    → d₁ ≡ put d at (code ∷ known ∷ r.last ∷ r.held % 256 ∷ []) → d₂ ≡ put d₁ (at + 4) r.indexes → d₃ ≡ put d₂ (at + 68) (spread r.lengths)
    → (d₃ ≡ put d at (row_image r)) × (length (row_image r) ≡ row_size)
unfolding row_image
row_written d d₁ d₂ d₃ at r z code known ec ek fits e₁ e₂ e₃ =
    let head : List ℕ = phase_code r.phase ∷ flag r.known ∷ r.last ∷ r.held % 256 ∷ [] in
    let a : d₁ ≡ put d at head = e₁ ∙ rw (ec, ek) in
    let b : d₂ ≡ put d at (head ++ r.indexes) = e₂ ∙ rw a (put-put d at (at + 4) head r.indexes refl (omega (arith, z.indexes64))) in (
      e₃ ∙ rw b (put-put d at (at + 68) (head ++ r.indexes) (spread r.lengths) (omega (arith, z.indexes64)) (omega (arith, length-spread r.lengths, z.lengths64))),
      length-row r z,
    )

pub rows_image-turn : (d d' d'' : List ℕ) (items : List Row) (at k : ℕ) (z : Row) → d' ≡ put d at (rows_image (take k items)) → length (rows_image (take k items)) ≡ k * row_size
    → length (row_image (get_or items k z)) ≡ row_size → k < length items → at + k * row_size + row_size ≤ length d → d'' ≡ put d' (at + k * row_size) (row_image (get_or items k z))
    → (d'' ≡ put d at (rows_image (take (k + 1) items))) × (length (rows_image (take (k + 1) items)) ≡ (k + 1) * row_size)
unfolding rows_image
rows_image-turn = write-turn row_image rows_image refl (λ x xs. refl) row_size

-- ---- the state

pub state_written : (d d₁ d₂ d₃ : List ℕ) (s : State) (f g : ℕ) → f ≡ flag s.present → g ≡ version_code s.settings.version → length d ≡ image_size → d₁ ≡ put d 0 (f ∷ window_of s % 256 ∷ g ∷ 0 ∷ [])
    → d₂ ≡ put d₁ 4 (be32 s.greatest) → d₃ ≡ put d₂ 8 (rows_image s.rows) → length (rows_image s.rows) ≡ row_max * row_size → d₃ ≡ image_of s
unfolding image_of be32
state_written d d₁ d₂ d₃ s f g ef eg full e₁ e₂ e₃ l =
    let head : List ℕ = flag s.present ∷ window_of s % 256 ∷ version_code s.settings.version ∷ 0 ∷ [] in
    let a : d₁ ≡ put d 0 head = e₁ ∙ rw (ef, eg) in
    let b : d₂ ≡ put d 0 (head ++ be32 s.greatest) = e₂ ∙ rw a (put-put d 0 4 head (be32 s.greatest) refl (omega arith)) in
    let all : d₃ ≡ put d 0 ((head ++ be32 s.greatest) ++ rows_image s.rows) = e₃ ∙ rw b (put-put d 0 8 (head ++ be32 s.greatest) (rows_image s.rows) refl (omega arith)) in
    all ∙ put_whole d ((head ++ be32 s.greatest) ++ rows_image s.rows) (simp length-append (omega arith))
