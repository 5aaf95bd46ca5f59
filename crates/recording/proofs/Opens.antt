-- What a caller has of a recording that was opened.
use mathlib.Core.Path.{◌≡◌, refl, sym, ap, ◌∙◌}
use mathlib.Core.List.{List}
use Rattle.std.specs.Prelude.{Result, Ok, Err}
use Prim.Native.Nat.{ℕ, ◌+◌, ◌*◌, ◌≤◌}
use native.Mathlib.Omega.{arith}
use lib.ListN.{length, take, drop, length-drop}
use lib.Seq.{take_all}
use Rattle.octets.specs.Octets.{number, pairs, put, sum_of}
use Rattle.octets.proofs.Put.{read_back, put_reaches}
use Rattle.octets.proofs.Pairs.{length_pairs}
use Rattle.recording.specs.declared.Refusal.{Refusal}
use Rattle.recording.specs.declared.Opened.{Opened}
use Rattle.recording.specs.Recording.{Recording, Read, refused, good, frames_max, octets_max, read, blank, opened}
use Rattle.recording.proofs.Writes.{even-sized}
use Rattle.recording.proofs.Trips.{reads}

pub record Opens (xs : List ℕ) (n : ℕ) (table : List ℕ) : Type 0 where
  pub recording : Recording
  pub means : read xs ≡ good recording
  pub lengths : take n table ≡ recording.lengths
  pub octets : drop (8 + n * 2) xs ≡ recording.octets
  pub frames : length recording.lengths ≡ n
  pub few : n ≤ frames_max
  pub room : n ≤ length table
  pub there : 8 + n * 2 ≤ length xs
  pub sum : sum_of recording.lengths ≡ length recording.octets
  pub small : length recording.octets ≤ octets_max

good_opens : (xs : List ℕ) (t : Recording) (n : ℕ) → read xs ≡ good t → n ≡ length t.lengths → Opens xs n (put blank 0 t.lengths)
good_opens xs t n e en =
    let R = reads xs t e in
    let N : ℕ = number xs in
    let m : ℕ = number (drop (4 + N * 2) xs) in
    let nN : n ≡ N = en ∙ ap (λ (r : Recording). length r.lengths) R.same ∙ length_pairs N (drop 4 xs) in
    let rest : length (drop (8 + N * 2) xs) ≡ m = length-drop (8 + N * 2) xs ∙ omega (arith, R.full) in
    let all : take m (drop (8 + N * 2) xs) ≡ drop (8 + N * 2) xs = take_all m (drop (8 + N * 2) xs) (omega arith) in
    let os : t.octets ≡ drop (8 + N * 2) xs = ap (λ (r : Recording). r.octets) R.same ∙ all in
    let ls : t.lengths ≡ pairs N (drop 4 xs) = ap (λ (r : Recording). r.lengths) R.same in
    let size : length t.octets ≡ m = ap length os ∙ rest in
    record {
      recording = t;
      means = e;
      lengths = rw en (read_back blank (put blank 0 t.lengths) t.lengths refl);
      octets = ap (λ (k : ℕ). drop (8 + k * 2) xs) nN ∙ sym os;
      frames = sym en;
      few = omega (arith, nN, R.counts.few);
      room = omega (arith, en, put_reaches blank 0 t.lengths (omega arith));
      there = omega (arith, nN, R.full);
      sum = ap sum_of ls ∙ sym (even-sized (pairs N (drop 4 xs)) m R.even).1 ∙ sym size;
      small = omega (arith, size, R.counts.small);
    }

pub opens_good : (xs : List ℕ) (r : Result Opened Refusal) (o : Opened) → r ≡ opened (read xs) → r ≡ Ok o → Opens xs o.frames o.lengths
unfolding opened
opens_good xs r o q a = go (read xs) refl
  where
    go : (t : Read) → read xs ≡ t → Opens xs o.frames o.lengths
    go (refused f) e = let b : opened (refused f) ≡ Ok o = sym (rw e at q) ∙ a in absurd (cc)
    go (good t) e =
        let b : opened (good t) ≡ Ok o = sym (rw e at q) ∙ a in
        let en : o.frames ≡ length t.lengths = cc in
        let et : o.lengths ≡ put blank 0 t.lengths = cc in
        rw et (good_opens xs t o.frames e en)

pub opens_not : (xs : List ℕ) (r : Result Opened Refusal) (f : Refusal) → r ≡ opened (read xs) → r ≡ Err f → read xs ≡ refused f
unfolding opened
opens_not xs r f q a = go (read xs) refl
  where
    go : (t : Read) → read xs ≡ t → read xs ≡ refused f
    go (refused g) e = let b : opened (refused g) ≡ Err f = sym (rw e at q) ∙ a in let s : g ≡ f = cc in e ∙ ap refused s
    go (good t) e = let b : opened (good t) ≡ Err f = sym (rw e at q) ∙ a in absurd (cc)

-- the recording from its parts
pub from_parts : {xs : List ℕ} {n : ℕ} {table : List ℕ} (O : Opens xs n table) (joined : List ℕ) → joined ≡ drop (8 + n * 2) xs → record { lengths = take n table; octets = joined } ≡ O.recording
from_parts O joined e = λ i. record { lengths = O.lengths i; octets = (e ∙ O.octets) i }
