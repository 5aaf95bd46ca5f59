-- What a sound row has, that it has room for a piece with a new index, and that an empty row is sound.
use mathlib.Core.Path.{◌≡◌, refl, sym, ◌∙◌}
use mathlib.Core.Bool.{Bool, true, false, cond, not, ◌&&◌, false≢true}
use mathlib.Core.List.{List, [], ◌∷◌}
use Prim.Native.Nat.{ℕ, zero, suc, ◌+◌, ◌≤◌, ◌<◌}
use native.Mathlib.Omega.{arith}
use lib.ListN.{length, take, drop, replicate}
use lib.Seq.{length-take-le}
use lib.Dec.{eqb, leb}
use borrow.Author.Tests.{eqb-true, leb-true, not-true}
use Rattle.octets.proofs.Flags.{both}
use Rattle.octets.specs.Octets.{sum_of}
use Rattle.pieces.specs.Pieces.{bundle_max, has, has_above, has_all, distinct, is_zeros, low_and_distinct, zero_from}
use Rattle.pieces.proofs.Counting.{above-has, lack_cons, held-and_lacking, low-distinct}
use Rattle.row.specs.declared.Row.{Row}
use Rattle.row.specs.declared.Phase.{Phase}
use Rattle.row.specs.declared.Phase.TheVariants.{Free}
use Rattle.row.proofs.Shaped.{Shaped}
use Rattle.row.specs.Row.{indexes_of, lengths_of, empty_row, is_open, sound_last, sound_pieces, sound_open, sound_empty, sound_row}

-- what holds of any sound row
pub record Sound (r : Row) : Type 0 where
  pub few : r.held ≤ 64
  pub apart : distinct (indexes_of r) ≡ true
  pub low : has_above 63 (indexes_of r) ≡ false
  pub fits : sum_of (lengths_of r) ≤ bundle_max
  pub last : r.last ≤ 63
  pub zero₁ : is_zeros (drop r.held r.indexes) ≡ true
  pub zero₂ : is_zeros (drop r.held r.lengths) ≡ true
  pub known : r.known ≡ true → (has r.last (indexes_of r) ≡ true) × (has_above r.last (indexes_of r) ≡ false)
  pub unknown : r.known ≡ false → r.last ≡ 0

last-low : (known : Bool) (last : ℕ) (is : List ℕ) → has_above 63 is ≡ false → sound_last known last is ≡ true → last ≤ 63
unfolding sound_last
last-low true last is h e = above-has 63 last is h (both (has last is) (not (has_above last is)) (both (has last is && not (has_above last is)) (not (has_all (last + 1) is)) e).0).0
last-low false last is h e = omega (arith, eqb-true last 0 e)

last-known : (known : Bool) (last : ℕ) (is : List ℕ) → sound_last known last is ≡ true → known ≡ true → (has last is ≡ true) × (has_above last is ≡ false)
unfolding sound_last
last-known true last is e k =
    let p = both (has last is) (not (has_above last is)) (both (has last is && not (has_above last is)) (not (has_all (last + 1) is)) e).0 in
    (p.0, not-true (has_above last is) p.1)
last-known false last is e k = absurd (false≢true k)

last_unknown : (known : Bool) (last : ℕ) (is : List ℕ) → sound_last known last is ≡ true → known ≡ false → last ≡ 0
unfolding sound_last
last_unknown true last is e k = absurd (false≢true (sym k))
last_unknown false last is e k = eqb-true last 0 e

open_facts : (r : Row) → sound_open r ≡ true → Sound r
unfolding sound_open sound_pieces zero_from
open_facts r e =
    let a = both (leb 1 r.held && leb r.held 64 && sound_pieces r) (sound_last r.known r.last (indexes_of r)) e in
    let b = both (leb 1 r.held && leb r.held 64) (sound_pieces r) a.0 in
    let f = both (low_and_distinct (indexes_of r)) (leb (sum_of (lengths_of r)) bundle_max && zero_from r.held r.indexes r.lengths) b.1 in
    let l = low-distinct (indexes_of r) f.0 in
    let m = both (leb (sum_of (lengths_of r)) bundle_max) (zero_from r.held r.indexes r.lengths) f.1 in
    let z = both (is_zeros (drop r.held r.indexes)) (is_zeros (drop r.held r.lengths)) m.1 in
    record {
      few = leb-true r.held 64 (both (leb 1 r.held) (leb r.held 64) b.0).1;
      apart = l.0;
      low = l.1;
      fits = leb-true (sum_of (lengths_of r)) bundle_max m.0;
      last = last-low r.known r.last (indexes_of r) l.1 a.1;
      zero₁ = z.0;
      zero₂ = z.1;
      known = last-known r.known r.last (indexes_of r) a.1;
      unknown = last_unknown r.known r.last (indexes_of r) a.1;
    }

empty_facts : (r : Row) → sound_empty r ≡ true → Sound r
unfolding sound_empty indexes_of lengths_of distinct has_above sum_of zero_from
empty_facts r e =
    let a = both (not r.known && eqb r.last 0 && eqb r.held 0) (zero_from 0 r.indexes r.lengths) e in
    let b = both (not r.known && eqb r.last 0) (eqb r.held 0) a.0 in
    let f = both (not r.known) (eqb r.last 0) b.0 in
    let z = both (is_zeros r.indexes) (is_zeros r.lengths) a.1 in
    let n : r.held ≡ 0 = eqb-true r.held 0 b.1 in
    let m : r.last ≡ 0 = eqb-true r.last 0 f.1 in
    record {
      few = omega arith;
      apart = rw n;
      low = rw n;
      fits = rw n (omega arith);
      last = omega arith;
      zero₁ = rw n z.0;
      zero₂ = rw n z.1;
      known = λ k. absurd (false≢true (sym (not-true r.known f.0) ∙ k));
      unknown = λ k. m;
    }

pub sound_facts : (r : Row) → sound_row r ≡ true → Sound r
unfolding sound_row
sound_facts r e = go (is_open r.phase) e
  where
    go : (b : Bool) → cond b (sound_open r) (sound_empty r) ≡ true → Sound r
    go true e = open_facts r e
    go false e = empty_facts r e

-- 64 entries suffice: an index that is not held lacks
pub room : (r : Row) (i : ℕ) → Sound r → length r.indexes ≡ 64 → i ≤ 63 → has i (indexes_of r) ≡ false → r.held < 64
unfolding indexes_of
room r i s l low new =
    let held : length (take r.held r.indexes) ≡ r.held = length-take-le r.held r.indexes (omega (arith, s.few)) in
    let p = held-and_lacking 64 (take r.held r.indexes) s.apart (λ j h. omega (arith, above-has 63 j (take r.held r.indexes) s.low h)) in
    omega (arith, p, held, lack_cons 64 i (take r.held r.indexes) new (omega arith))

-- an empty row is sound
pub empty-sound : (p : Phase) → is_open p ≡ false → sound_row (empty_row p) ≡ true
unfolding sound_row sound_empty zero_from is_zeros
empty-sound p e = rw e

zeros : (n : ℕ) (xs : List ℕ) → length xs ≡ n → is_zeros xs ≡ true → xs ≡ replicate n 0
unfolding is_zeros
zeros zero [] l e = refl
zeros zero (x ∷ xs) l e = absurd (omega arith)
zeros (suc n) [] l e = absurd (omega arith)
zeros (suc n) (x ∷ xs) l e =
    let p = both (eqb x 0) (is_zeros xs) e in
    rw (eqb-true x 0 p.0, zeros n xs (omega arith) p.1)

-- and a sound Free row with 64 entries is the empty one
pub free-empty : (r : Row) → Shaped r → sound_row r ≡ true → r.phase ≡ Free → r ≡ empty_row Free
unfolding sound_row sound_empty zero_from
free-empty r z s e =
    let t : sound_empty r ≡ true = rw e at s in
    let a = both (not r.known && eqb r.last 0 && eqb r.held 0) (zero_from 0 r.indexes r.lengths) t in
    let b = both (not r.known && eqb r.last 0) (eqb r.held 0) a.0 in
    let f = both (not r.known) (eqb r.last 0) b.0 in
    let l = both (is_zeros r.indexes) (is_zeros r.lengths) a.1 in
    let known = not-true r.known f.0 in
    let last = eqb-true r.last 0 f.1 in
    let held = eqb-true r.held 0 b.1 in
    let indexes = zeros 64 r.indexes z.indexes64 l.0 in
    let lengths = zeros 64 r.lengths z.lengths64 l.1 in
    λ j. record { phase = e j; known = known j; last = last j; held = held j; indexes = indexes j; lengths = lengths j }
