-- A receiver's state that was written to an image reads back, so a host can keep the image over a restart. Sound states fit an image.
use mathlib.Core.Bool.{Bool, true, false}
use mathlib.Core.Logic.{⊎_elim}
use mathlib.Core.List.{List, [], ◌∷◌, ◌++◌, append_assoc, append-nil}
use mathlib.Core.Path.{◌≡◌, refl}
use Prim.Native.Nat.{ℕ, zero, suc, ◌+◌, ◌-◌, ◌*◌, ◌%◌, ◌≤◌, ◌<◌, ◌^◌}
use native.Mathlib.Omega.{arith}
use lib.Dec.{eqb, leb, ltb}
use lib.ListN.{length, get_or, take, drop}
use lib.Seq.{take_at, drop_at, get_or-take, get_or-drop}
use borrow.Author.Tests.{eqb-true, ltb-true, ltb-false}
use Rattle.octets.specs.Octets.{be32, spread, sum_of}
use Rattle.octets.proofs.Flags.{bool, and, both}
use Rattle.octets.proofs.Numbers.{number-be32}
use Rattle.octets.proofs.Series.{length-items}
use Rattle.octets.proofs.Pairs.{pairs-back}
use Rattle.wire.specs.declared.Version.{Version}
use Rattle.wire.specs.declared.Version.TheVariants.{Draft00, Draft02}
use Rattle.window.proofs.Sizes.{window_range}
use Rattle.row.specs.declared.Phase.{Phase}
use Rattle.row.specs.declared.Phase.TheVariants.{Free, Open, Done, Cancelled, Abandoned}
use Rattle.row.specs.declared.Row.{Row}
use Rattle.pieces.specs.Pieces.{bundle_max, is_zeros}
use Rattle.row.specs.Row.{lengths_of, sound_row}
use Rattle.row.proofs.Shaped.{Shaped}
use Rattle.row.proofs.Sound.{sound_facts}
use Rattle.rows.specs.declared.State.{State}
use Rattle.rows.specs.State.{window_of, row_max, sound}
use Rattle.rows.proofs.Rows.{sound-parts, sound-window, sound-get}
use Rattle.images.specs.Receiver.{image_size, row_size, phase_of, is_row, row_of, are_rows, rows_of, is_image, state_of, phase_code, version_of, version_code, flag, row_image, rows_image, image_of}
use Rattle.images.proofs.Rows.{length-row}

-- a row whose numbers fit their octets
pub record RowFits (r : Row) : Type 0 where
  pub shaped : Shaped r
  pub held : r.held < 256
  pub lengths : (k : ℕ) → k < length r.lengths → get_or r.lengths k 0 < 2 ^ 16

-- a state whose numbers fit their octets
pub record StateFits (s : State) : Type 0 where
  pub full : length s.rows ≡ row_max
  pub greatest : s.greatest < 2 ^ 32
  pub window : window_of s < 256
  pub rows : (k : ℕ) (z : Row) → k < length s.rows → RowFits (get_or s.rows k z)

phase_back : (p : Phase) → phase_of (phase_code p) ≡ p
unfolding phase_of
phase_back Free = refl
phase_back Open = refl
phase_back Done = refl
phase_back Cancelled = refl
phase_back Abandoned = refl

phase_low : (p : Phase) → leb (phase_code p) 4 ≡ true
phase_low Free = refl
phase_low Open = refl
phase_low Done = refl
phase_low Cancelled = refl
phase_low Abandoned = refl

pub flag-back : (b : Bool) → eqb (flag b) 1 ≡ b
flag-back true = refl
flag-back false = refl

pub flag-low : (b : Bool) → leb (flag b) 1 ≡ true
flag-low true = refl
flag-low false = refl

pub version_back : (v : Version) → version_of (version_code v) ≡ v
unfolding version_of
version_back Draft00 = refl
version_back Draft02 = refl

pub version_low : (v : Version) → leb (version_code v) 1 ≡ true
version_low Draft00 = refl
version_low Draft02 = refl

-- ---- rows, with octets behind them

row_back : (r : Row) (xs : List ℕ) → RowFits r → row_of (row_image r ++ xs) ≡ r
unfolding row_of row_image
row_back r xs f =
    let held : r.held % 256 ≡ r.held = omega (arith, f.held) in
    let indexes : take 64 (r.indexes ++ spread r.lengths ++ xs) ≡ r.indexes = rw append_assoc (take_at r.indexes (spread r.lengths ++ xs) 64 f.shaped.indexes64) in
    let rest : drop 64 (r.indexes ++ spread r.lengths ++ xs) ≡ spread r.lengths ++ xs = rw append_assoc (drop_at r.indexes (spread r.lengths ++ xs) 64 f.shaped.indexes64) in
    rw (phase_back r.phase, flag-back r.known, held, indexes, rest, pairs-back r.lengths xs 64 f.shaped.lengths64 f.lengths)

row_is : (r : Row) (xs : List ℕ) → is_row (row_image r ++ xs) ≡ true
unfolding is_row row_image
row_is r xs = and (leb (phase_code r.phase) 4) (leb (flag r.known) 1) (phase_low r.phase) (flag-low r.known)

module _ (xs : List ℕ) where
  past_row : (r : Row) (rs : List Row) → Shaped r → drop row_size (row_image r ++ rows_image rs ++ xs) ≡ rows_image rs ++ xs
  past_row r rs z = rw append_assoc (drop_at (row_image r) (rows_image rs ++ xs) row_size (length-row r z))

  rows_back : (rs : List Row) (n : ℕ) → length rs ≡ n → ((k : ℕ) (z : Row) → k < length rs → RowFits (get_or rs k z)) → rows_of n (rows_image rs ++ xs) ≡ rs
  unfolding rows_of rows_image
  rows_back [] zero e each = refl
  rows_back [] (suc n) e each = absurd (omega arith)
  rows_back (r ∷ rs) zero e each = absurd (omega arith)
  rows_back (r ∷ rs) (suc n) e each =
      let f = each 0 r (omega arith) in
      rw (past_row r rs f.shaped, append_assoc (row_image r) (rows_image rs) xs, row_back r (rows_image rs ++ xs) f, rows_back rs n (omega arith) (λ k z h. each (suc k) z (omega arith)))

  are_rows_back : (rs : List Row) (n : ℕ) → length rs ≡ n → ((k : ℕ) (z : Row) → k < length rs → RowFits (get_or rs k z)) → are_rows n (rows_image rs ++ xs) ≡ true
  unfolding are_rows rows_image
  are_rows_back [] zero e each = refl
  are_rows_back [] (suc n) e each = absurd (omega arith)
  are_rows_back (r ∷ rs) zero e each = absurd (omega arith)
  are_rows_back (r ∷ rs) (suc n) e each =
      rw (past_row r rs (each 0 r (omega arith)).shaped, append_assoc (row_image r) (rows_image rs) xs, row_is r (rows_image rs ++ xs)) (are_rows_back rs n (omega arith) (λ k z h. each (suc k) z (omega arith)))

length_rows : (rs : List Row) → ((k : ℕ) (z : Row) → k < length rs → RowFits (get_or rs k z)) → length (rows_image rs) ≡ length rs * row_size
unfolding rows_image
length_rows rs each = length-items row_image rows_image refl (λ x xs. refl) row_size rs (λ k z h. length-row (get_or rs k z) (each k z h).shaped)

-- ---- the state

pub state_back : (s : State) → StateFits s → state_of (image_of s) ≡ s
unfolding state_of image_of be32
state_back s f =
    let rows : rows_of row_max (rows_image s.rows) ≡ s.rows = rw append-nil at (rows_back [] s.rows row_max f.full f.rows) in
    let window : window_of s % 256 ≡ window_of s = omega (arith, f.window) in
    rw (flag-back s.present, window, number-be32 s.greatest (rows_image s.rows) f.greatest, rows, version_back s.settings.version)

pub image-of-is : (s : State) → StateFits s → is_image (image_of s) ≡ true
unfolding is_image image_of be32
image-of-is s f =
    let rows : are_rows row_max (rows_image s.rows) ≡ true = rw append-nil at (are_rows_back [] s.rows row_max f.full f.rows) in
    rw (flag-low s.present, version_low s.settings.version, rows)

pub length-image : (s : State) → StateFits s → length (image_of s) ≡ image_size
unfolding image_of be32
length-image s f = omega (arith, length_rows s.rows f.rows, f.full)

-- ---- sound states

sum-at : (ns : List ℕ) (k : ℕ) → get_or ns k 0 ≤ sum_of ns
unfolding sum_of
sum-at [] k = omega arith
sum-at (n ∷ ns) zero = omega arith
sum-at (n ∷ ns) (suc k) = omega (arith, sum-at ns k)

zeros-at : (ns : List ℕ) (k : ℕ) → is_zeros ns ≡ true → get_or ns k 0 ≡ 0
unfolding is_zeros
zeros-at [] k e = refl
zeros-at (n ∷ ns) zero e = eqb-true n 0 (both (eqb n 0) (is_zeros ns) e).0
zeros-at (n ∷ ns) (suc k) e = zeros-at ns k (both (eqb n 0) (is_zeros ns) e).1

low_lengths : (h : ℕ) (ns : List ℕ) → sum_of (take h ns) ≤ bundle_max → is_zeros (drop h ns) ≡ true → (k : ℕ) → get_or ns k 0 < 2 ^ 16
low_lengths h ns sum zeros k = ⊎_elim held past (bool (ltb k h))
  where
    held : ltb k h ≡ true → get_or ns k 0 < 2 ^ 16
    held l = omega (arith, get_or-take h ns k 0 (ltb-true k h l), sum-at (take h ns) k)

    past : ltb k h ≡ false → get_or ns k 0 < 2 ^ 16
    past l =
        let e : h + (k - h) ≡ k = omega (arith, ltb-false k h l) in
        omega (arith, rw e at (get_or-drop h ns (k - h) 0), zeros-at (drop h ns) (k - h) zeros)

pub sound-row-fits : (r : Row) → Shaped r → sound_row r ≡ true → RowFits r
unfolding lengths_of
sound-row-fits r z e =
    let f = sound_facts r e in
    record { shaped = z; held = omega (arith, f.few); lengths = λ k h. low_lengths r.held r.lengths f.fits f.zero₂ k }

pub sound_state_fits : (s : State) → sound s ≡ true → length s.rows ≡ row_max → s.greatest < 2 ^ 32
    → ((k : ℕ) (z : Row) → k < length s.rows → Shaped (get_or s.rows k z)) → StateFits s
sound_state_fits s e full low shaped =
    record {
      full = full;
      greatest = low;
      window = omega (arith, window_range (window_of s) (sound-window s e));
      rows = λ k z h. sound-row-fits (get_or s.rows k z) (shaped k z h) (both (sound_row (get_or s.rows k z)) _ (sound-get (window_of s) s.present 0 s.rows k z h (sound-parts s e).2)).0;
    }
