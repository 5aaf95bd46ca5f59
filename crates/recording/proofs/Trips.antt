-- Reading what was written, and writing what was read, give the same back: `RoundTrips` of specs/Recording.antt.
use mathlib.Core.Path.{◌≡◌, refl, sym, ◌∙◌}
use mathlib.Core.Bool.{Bool, true, false}
use mathlib.Core.Option.{Option, none, some}
use mathlib.Core.List.{List, ◌++◌, append_assoc}
use Prim.Native.Nat.{ℕ, ◌+◌, ◌*◌, ◌≤◌, ◌<◌, ◌^◌}
use native.Mathlib.Omega.{arith}
use lib.ListN.{length, get_or, take, drop, length-take, length-drop}
use lib.Seq.{drop_at, take-add, take_all, take-length, drop-drop}
use lib.Dec.{ltb}
use borrow.Author.Tests.{ltb-false, le-ltb}
use Rattle.octets.specs.Octets.{Octets, number, be32, pairs, spread, put}
use Rattle.octets.proofs.Flags.{cond_elim}
use Rattle.octets.proofs.Put.{read_back}
use Rattle.octets.proofs.Numbers.{octets_drop, number-be32, length-be32, be32-back}
use Rattle.octets.proofs.Pairs.{length-spread, length_pairs, pairs-back, spread-back}
use Rattle.recording.specs.declared.Refusal.{Refusal}
use Rattle.std.specs.Prelude.{Ok}
use Rattle.recording.specs.Recording.{Recording, Read, good, frames_max, octets_max, uneven, whole, read, written, unwritable, Wrote, writes, write, RoundTrips}
use Rattle.recording.proofs.Reading.{Counted, parts, counted}
use Rattle.recording.proofs.Writes.{Writable, writable, writes-back, length-written, sized-at, even-sized}

-- ---- reading what was written

module _ (r : Recording) (f : Writable r) where
  behind_counts : (drop 4 (written r) ≡ spread r.lengths ++ (be32 (length r.octets) ++ r.octets)) × (number (written r) ≡ length r.lengths)
  unfolding written
  behind_counts =
      let n : ℕ = length r.lengths in
      let rest : List ℕ = spread r.lengths ++ (be32 (length r.octets) ++ r.octets) in
      let e : written r ≡ be32 n ++ rest = simp append_assoc in
      (rw e (drop_at (be32 n) rest 4 (length-be32 n)), rw e (number-be32 n rest (omega (arith, f.few))))

  behind_lengths : drop (4 + length r.lengths * 2) (written r) ≡ be32 (length r.octets) ++ r.octets
  behind_lengths =
      let n : ℕ = length r.lengths in
      sym (drop-drop (n * 2) 4 (written r)) ∙ rw behind_counts.0 (drop_at (spread r.lengths) (be32 (length r.octets) ++ r.octets) (n * 2) (length-spread r.lengths))

  behind_all : drop (8 + length r.lengths * 2) (written r) ≡ r.octets
  behind_all =
      let n : ℕ = length r.lengths in
      let m : ℕ = length r.octets in
      let e : (4 + n * 2) + 4 ≡ 8 + n * 2 = omega arith in
      rw e at (sym (drop-drop 4 (4 + n * 2) (written r))) ∙ rw behind_lengths (drop_at (be32 m) r.octets 4 (length-be32 m))

  back : read (written r) ≡ good r
  unfolding whole
  back =
      let n : ℕ = length r.lengths in
      let m : ℕ = length r.octets in
      let xs : List ℕ = written r in
      let k : Counted xs n m = record {
        frames = sym behind_counts.1;
        few = f.few;
        octets = rw behind_lengths (sym (number-be32 m r.octets (omega (arith, f.small))));
        small = f.small;
        there = rw (length-written r) (omega arith);
      } in
      let low : (k : ℕ) → k < length r.lengths → get_or r.lengths k 0 < 2 ^ 16 = λ k h. omega (arith, sized-at r.lengths (even-sized r.lengths m f.even).0 k h) in
      let ls : pairs n (drop 4 xs) ≡ r.lengths = rw behind_counts.0 (pairs-back r.lengths (be32 m ++ r.octets) n refl low) in
      let os : take m (drop (8 + n * 2) xs) ≡ r.octets = rw behind_all (take-length r.octets) in
      counted xs n m k ∙ rw (ls, os, f.even, le-ltb (8 + n * 2 + m) (length xs) (rw (length-written r) (omega arith)))

-- ---- writing what was read

whole_good : (q : Option Refusal) (more : Bool) (p r : Recording) → whole q more p ≡ good r → (q ≡ none) × (more ≡ false) × (r ≡ p)
unfolding whole
whole_good (some q) more p r e = absurd (cc)
whole_good none true p r e = absurd (cc)
whole_good none false p r e = (refl, refl, cc)

-- octets that read as r
pub record Reads (xs : List ℕ) (n m : ℕ) (r : Recording) : Type 0 where
  pub counts : Counted xs n m
  pub even : uneven (pairs n (drop 4 xs)) m ≡ none
  pub full : length xs ≡ 8 + n * 2 + m
  pub same : r ≡ parts xs n m

pub reads : (xs : List ℕ) (r : Recording) → read xs ≡ good r → Reads xs (number xs) (number (drop (4 + number xs * 2) xs)) r
unfolding read
reads xs r =
    let n : ℕ = number xs in
    let m : ℕ = number (drop (4 + n * 2) xs) in
    let P : Read → Type 0 = λ (z : Read). z ≡ good r → Reads xs n m r in
    cond_elim P (ltb (length xs) 4) (λ _ e. absurd (cc))
    (λ _. cond_elim P (ltb frames_max n) (λ _ e. absurd (cc))
    (λ few. cond_elim P (ltb (length xs) (8 + n * 2)) (λ _ e. absurd (cc))
    (λ _. cond_elim P (ltb octets_max m) (λ _ e. absurd (cc))
    (λ small. cond_elim P (ltb (length xs) (8 + n * 2 + m)) (λ _ e. absurd (cc))
    (λ there e.
    let w = whole_good (uneven (pairs n (drop 4 xs)) m) (ltb (8 + n * 2 + m) (length xs)) (parts xs n m) r e in
    let low : 8 + n * 2 + m ≤ length xs = ltb-false (length xs) (8 + n * 2 + m) there in
    let high : length xs ≤ 8 + n * 2 + m = ltb-false (8 + n * 2 + m) (length xs) w.1 in
    record { counts = record { frames = refl; few = ltb-false frames_max n few; octets = refl; small = ltb-false octets_max m small; there = low }; even = w.0; full = omega arith; same = w.2 })))))

module _ (xs : List ℕ) (low : Octets xs) (n m : ℕ) (r : Recording) (R : Reads xs n m r) where
  lengths_size : length (parts xs n m).lengths ≡ n
  lengths_size = length_pairs n (drop 4 xs)

  octets_size : length (parts xs n m).octets ≡ m
  octets_size = rw (length-take, length-drop) (omega (arith, R.full))

  again : written (parts xs n m) ≡ xs
  unfolding written
  again =
      let c = R.counts in
      let first : be32 n ≡ take 4 xs = rw c.frames (be32-back xs low (omega (arith, R.full))) in
      let ls : spread (pairs n (drop 4 xs)) ≡ take (n * 2) (drop 4 xs) = spread-back n (drop 4 xs) (octets_drop 4 xs low) (rw length-drop (omega (arith, R.full))) in
      let second : be32 m ≡ take 4 (drop (4 + n * 2) xs) = rw c.octets (be32-back (drop (4 + n * 2) xs) (octets_drop (4 + n * 2) xs low) (rw length-drop (omega (arith, R.full)))) in
      let e : (4 + n * 2) + 4 ≡ 8 + n * 2 = omega arith in
      let all : take (8 + n * 2 + m) xs ≡ xs = take_all (8 + n * 2 + m) xs (omega (arith, R.full)) in
      rw (lengths_size, octets_size, first, ls, second, ← take-add 4 (n * 2) xs, ← take-add (4 + n * 2) 4 xs, e, ← take-add (8 + n * 2) m xs) all

  writable_again : unwritable (parts xs n m) ≡ none
  writable_again = writes-back (parts xs n m) (record { few = rw lengths_size R.counts.few; small = rw octets_size R.counts.small; even = rw octets_size R.even })

-- ---- the calls

module _ (r : Recording) (output : List ℕ) (n : ℕ) where
  abbrev Done : Wrote → Type 0
  Done x = x.answer ≡ Ok n → (unwritable r ≡ none) × (n ≡ length (written r)) × (x.output ≡ put output 0 (written r))

  done : (q : Option Refusal) → unwritable r ≡ q → Done (writes q r output)
  unfolding writes
  done (some q) e = λ a. absurd (cc)
  done none e = cond_elim Done (ltb (length output) (length (written r))) (λ _ a. absurd (cc)) (λ _ a. (e, cc, refl))

  wrote : Done (write r output)
  unfolding write
  wrote = done (unwritable r) refl

read-written : (r : Recording) (output : List ℕ) (n : ℕ) → (write r output).answer ≡ Ok n → read (take n (write r output).output) ≡ good r
read-written r output n a =
    let w = wrote r output n a in
    rw (w.1, read_back output (write r output).output (written r) w.2) (back r (writable r w.0))

write_read : (xs : List ℕ) → Octets xs → (r : Recording) → read xs ≡ good r → (output : List ℕ) → length xs ≤ length output → write r output ≡ record { answer = Ok (length xs); output = put output 0 xs }
unfolding write writes
write_read xs low r e output room =
    let R = reads xs r e in
    let good : unwritable r ≡ none = rw R.same (writable_again xs low _ _ r R) in
    let same : written r ≡ xs = rw R.same (again xs low _ _ r R) in
    rw (good, same, le-ltb (length output) (length xs) room)

pub round_trips : RoundTrips
round_trips = record { written-reads = read-written; read-writes = write_read }
