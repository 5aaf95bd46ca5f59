-- The refusals of reader and writer in their order, as tables; a refused call of the writer leaves its output.
use mathlib.Core.Path.{◌≡◌, refl}
use mathlib.Core.Bool.{Bool, true, false, cond, not, ◌||◌}
use mathlib.Core.Logic.{◌⊎◌, inl, inr}
use mathlib.Core.Option.{Option, none, some}
use mathlib.Core.List.{List, [], ◌∷◌}
use Rattle.std.specs.Prelude.{Result, Ok, Err}
use Prim.Native.Nat.{ℕ, ◌+◌, ◌*◌, ◌<◌}
use native.Mathlib.Omega.{arith}
use lib.ListN.{length, take, drop}
use lib.Dec.{ltb, eqb}
use Rattle.octets.specs.Octets.{number, pairs, sum_of}
use Rattle.octets.proofs.Cases.{first}
use Rattle.octets.proofs.Flags.{bool, cond_elim}
use Rattle.recording.specs.declared.Refusal.{Refusal}
use Rattle.recording.specs.declared.Refusal.TheVariants.{CutShort, OverLimit, FrameLength, OctetCount, LeftOver, ShortOutput}
use Rattle.recording.specs.Recording.{refusal_number, frames_max, octets_max, Recording, Read, refused, good, sized, uneven, whole, read, written, unwritable, Wrote, writes, write}

-- 0 is no refusal's number
pub number-some : (q : Refusal) → 0 < refusal_number q
number-some CutShort = omega arith
number-some OverLimit = omega arith
number-some FrameLength = omega arith
number-some OctetCount = omega arith
number-some LeftOver = omega arith
number-some ShortOutput = omega arith

-- ---- the reader

unfoldable pub read_number : Read → ℕ
read_number (refused q) = refusal_number q
read_number (good r) = 0

-- document 02's table: "16 cut short (the first count, or what must follow counts within their limits, is missing), 17 a count above its
-- limit, 18 a length outside 1 to 2,048, 19 octet count not the sum of the lengths, 20 octets left over"
abbrev pub read_cases : List ℕ → List (ℕ × Bool)
read_cases xs =
    let n : ℕ = number xs in
    let m : ℕ = number (drop (4 + n * 2) xs) in
    let lengths : List ℕ = pairs n (drop 4 xs) in
    (16, ltb (length xs) 4)
    ∷ (17, ltb frames_max n)
    ∷ (16, ltb (length xs) (8 + n * 2))
    ∷ (17, ltb octets_max m)
    ∷ (16, ltb (length xs) (8 + n * 2 + m))
    ∷ (18, not (sized lengths))
    ∷ (19, not (eqb m (sum_of lengths)))
    ∷ (20, ltb (8 + n * 2 + m) (length xs))
    ∷ []

read_order : (a b c d e bad-length bad_sum more : Bool) (r : Recording)
    → read_number (cond a (refused CutShort) (cond b (refused OverLimit) (cond c (refused CutShort) (cond d (refused OverLimit) (cond e (refused CutShort)
    (whole (cond bad-length (some FrameLength) (cond bad_sum (some OctetCount) none)) more r))))))
    ≡ cond a 16 (cond b 17 (cond c 16 (cond d 17 (cond e 16 (cond bad-length 18 (cond bad_sum 19 (cond more 20 0)))))))
unfolding whole read_number
read_order true b c d e f g h r = refl
read_order false true c d e f g h r = refl
read_order false false true d e f g h r = refl
read_order false false false true e f g h r = refl
read_order false false false false true f g h r = refl
read_order false false false false false true g h r = refl
read_order false false false false false false true h r = refl
read_order false false false false false false false true r = refl
read_order false false false false false false false false r = refl

pub read-in_order : (xs : List ℕ) → read_number (read xs) ≡ first (read_cases xs)
unfolding read uneven first
read-in_order xs =
    let n : ℕ = number xs in
    let m : ℕ = number (drop (4 + n * 2) xs) in
    let lengths : List ℕ = pairs n (drop 4 xs) in
    read_order (ltb (length xs) 4) (ltb frames_max n) (ltb (length xs) (8 + n * 2)) (ltb octets_max m) (ltb (length xs) (8 + n * 2 + m)) (not (sized lengths)) (not (eqb m (sum_of lengths))) (ltb (8 + n * 2 + m) (length xs))
    (record { lengths = lengths; octets = take m (drop (8 + n * 2) xs) })

-- ---- the writer

unfoldable pub write_number : Result ℕ Refusal → ℕ
write_number (Ok n) = 0
write_number (Err q) = refusal_number q

-- "The writer gives 17 to 19 likewise, then 24 for too short an output"
abbrev pub write_cases : Recording → List ℕ → List (ℕ × Bool)
write_cases r output =
    (17, ltb frames_max (length r.lengths) || ltb octets_max (length r.octets))
    ∷ (18, not (sized r.lengths))
    ∷ (19, not (eqb (length r.octets) (sum_of r.lengths)))
    ∷ (24, ltb (length output) (length (written r)))
    ∷ []

write_order : (over bad-length bad_sum : Bool) (r : Recording) (output : List ℕ)
    → write_number (writes (cond over (some OverLimit) (cond bad-length (some FrameLength) (cond bad_sum (some OctetCount) none))) r output).answer
    ≡ cond over 17 (cond bad-length 18 (cond bad_sum 19 (cond (ltb (length output) (length (written r))) 24 0)))
unfolding writes write_number
write_order true b c r output = refl
write_order false true c r output = refl
write_order false false true r output = refl
write_order false false false r output = go (bool (ltb (length output) (length (written r))))
  where
    go : (ltb (length output) (length (written r)) ≡ true) ⊎ (ltb (length output) (length (written r)) ≡ false)
        → write_number (writes none r output).answer ≡ cond (ltb (length output) (length (written r))) 24 0
    go (inl e) = rw e
    go (inr e) = rw e

pub write-in_order : (r : Recording) (output : List ℕ) → write_number (write r output).answer ≡ first (write_cases r output)
unfolding write unwritable uneven first
write-in_order r output =
    write_order (ltb frames_max (length r.lengths) || ltb octets_max (length r.octets)) (not (sized r.lengths)) (not (eqb (length r.octets) (sum_of r.lengths))) r output

-- "all output not written to stays": all of it, where the call is refused
pub write-refused : (r : Recording) (output : List ℕ) (q : Refusal) → (write r output).answer ≡ Err q → (write r output).output ≡ output
unfolding write writes
write-refused r output q = go (unwritable r)
  where
    go : (o : Option Refusal) → (writes o r output).answer ≡ Err q → (writes o r output).output ≡ output
    go (some f) e = refl
    go none e = cond_elim (λ (w : Wrote). w.answer ≡ Err q → w.output ≡ output) (ltb (length output) (length (written r))) (λ _ _. refl) (λ _ a. absurd (cc)) e
