-- The reader's answers: `read` of specs/Recording.antt once both counts are within their limits and nothing is missing.
use mathlib.Core.Path.{◌≡◌, refl, ◌∙◌}
use mathlib.Core.Option.{Option, none, some}
use mathlib.Core.Bool.{Bool, true, false, cond}
use Rattle.std.specs.Prelude.{Result, Ok, Err}
use mathlib.Core.List.{List}
use Prim.Native.Nat.{ℕ, ◌+◌, ◌*◌, ◌≤◌, ◌<◌}
use native.Mathlib.Omega.{arith}
use lib.ListN.{length, take, drop, length-take, length-drop}
use lib.Dec.{ltb}
use borrow.Author.Tests.{ltb-false, lt-ltb, le-ltb}
use Rattle.octets.proofs.Flags.{cond_elim}
use Rattle.octets.specs.Octets.{number, pairs, put}
use Rattle.octets.proofs.Pairs.{length_pairs}
use Rattle.recording.specs.declared.Refusal.{Refusal}
use Rattle.recording.specs.declared.Refusal.TheVariants.{CutShort, OverLimit, LeftOver}
use Rattle.recording.specs.Recording.{Recording, Read, refused, good, frames_max, octets_max, uneven, verdict, whole, read, blank, opened, count_at}

-- the parts of octets with n lengths and a count of m
abbrev pub parts : List ℕ → ℕ → ℕ → Recording
parts xs n m = record { lengths = pairs n (drop 4 xs); octets = take m (drop (8 + n * 2) xs) }

-- counts within their limits, and all that they promise
pub record Counted (xs : List ℕ) (n m : ℕ) : Type 0 where
  pub frames : n ≡ number xs
  pub few : n ≤ frames_max
  pub octets : m ≡ number (drop (4 + n * 2) xs)
  pub small : m ≤ octets_max
  pub there : 8 + n * 2 + m ≤ length xs

-- a count that was read at a position
pub record Count (xs : List ℕ) (at limit n : ℕ) : Type 0 where
  pub there : at + 4 ≤ length xs
  pub is : n ≡ number (drop at xs)
  pub few : n ≤ limit

pub count-ok : (xs : List ℕ) (at limit n : ℕ) → count_at at limit xs ≡ Ok n → Count xs at limit n
unfolding count_at
count-ok xs at limit n =
    let P : Result ℕ Refusal → Type 0 = λ (r : Result ℕ Refusal). r ≡ Ok n → Count xs at limit n in
    cond_elim P (ltb (length xs) (at + 4)) (λ _ e. absurd (cc))
    (λ there. cond_elim P (ltb limit (number (drop at xs))) (λ _ e. absurd (cc))
    (λ few e. let is : n ≡ number (drop at xs) = cc in record { there = ltb-false (length xs) (at + 4) there; is = is; few = rw is (ltb-false limit (number (drop at xs)) few) }))

-- what `read` says where a count was not read
pub count-err : (xs : List ℕ) (at end limit : ℕ) (q : Refusal) (more : Read) → end ≡ at + 4 → count_at at limit xs ≡ Err q
    → cond (ltb (length xs) end) (refused CutShort) (cond (ltb limit (number (drop at xs))) (refused OverLimit) more) ≡ refused q
unfolding count_at
count-err xs at end limit q more h = rw h (go (ltb (length xs) (at + 4)) (ltb limit (number (drop at xs))) (number (drop at xs)))
  where
    go : (a b : Bool) (n : ℕ) → ◌≡◌ {A = Result ℕ Refusal} (cond a (Err CutShort) (cond b (Err OverLimit) (Ok n))) (Err q) → cond a (refused CutShort) (cond b (refused OverLimit) more) ≡ refused q
    go true b n e = cc
    go false true n e = cc
    go false false n e = absurd (cc)

module _ (xs : List ℕ) where
  pub no_frames : (q : Refusal) → count_at 0 frames_max xs ≡ Err q → read xs ≡ refused q
  unfolding read
  no_frames q e = count-err xs 0 4 frames_max q _ refl e

  module _ (n : ℕ) (N : Count xs 0 frames_max n) where
    pub no_octets : (q : Refusal) → count_at (4 + n * 2) octets_max xs ≡ Err q → read xs ≡ refused q
    unfolding read
    no_octets q e =
        rw (le-ltb (length xs) 4 N.there, ← N.is, le-ltb frames_max n N.few) (count-err xs (4 + n * 2) (8 + n * 2) octets_max q _ (omega arith) e)

    module _ (m : ℕ) (M : Count xs (4 + n * 2) octets_max m) where
      pub cut_short : length xs < 8 + n * 2 + m → read xs ≡ refused CutShort
      unfolding read
      cut_short h =
          rw (le-ltb (length xs) 4 N.there, ← N.is, le-ltb frames_max n N.few, le-ltb (length xs) (8 + n * 2) (omega (arith, M.there)), ← M.is, le-ltb octets_max m M.few, lt-ltb (length xs) (8 + n * 2 + m) h)

      pub counts : 8 + n * 2 + m ≤ length xs → Counted xs n m
      counts h = record { frames = N.is; few = N.few; octets = M.is; small = M.few; there = h }

pub fit : (q : Option Refusal) → verdict q ≡ Ok tt → q ≡ none
unfolding verdict
fit none e = refl
fit (some q) e = absurd (cc)

pub unfit : (q : Option Refusal) (r : Refusal) → verdict q ≡ Err r → q ≡ some r
unfolding verdict
unfit none r e = absurd (cc)
unfit (some q) r e = cc

module _ (xs : List ℕ) (n m : ℕ) (k : Counted xs n m) where
  pub counted : read xs ≡ whole (uneven (pairs n (drop 4 xs)) m) (ltb (8 + n * 2 + m) (length xs)) (parts xs n m)
  unfolding read
  counted = rw (← k.frames, ← k.octets, le-ltb (length xs) 4 (omega (arith, k.there)), le-ltb frames_max n k.few, le-ltb (length xs) (8 + n * 2) (omega (arith, k.there)), le-ltb octets_max m k.small, le-ltb (length xs) (8 + n * 2 + m) k.there)

  pub unevenly : (q : Refusal) → verdict (uneven (pairs n (drop 4 xs)) m) ≡ Err q → read xs ≡ refused q
  unfolding whole
  unevenly q e = counted ∙ rw (unfit _ q e)

  pub left : verdict (uneven (pairs n (drop 4 xs)) m) ≡ Ok tt → 8 + n * 2 + m < length xs → read xs ≡ refused LeftOver
  unfolding whole
  left e h = counted ∙ rw (fit _ e, lt-ltb (8 + n * 2 + m) (length xs) h)

  pub opens : verdict (uneven (pairs n (drop 4 xs)) m) ≡ Ok tt → length xs ≤ 8 + n * 2 + m → read xs ≡ good (parts xs n m)
  unfolding whole
  opens e h = counted ∙ rw (fit _ e, le-ltb (8 + n * 2 + m) (length xs) h)

  pub opened-parts : opened (good (parts xs n m)) ≡ Ok (record { lengths = put blank 0 (pairs n (drop 4 xs)); frames = n; octets = m })
  unfolding opened
  opened-parts =
      let e : length (take m (drop (8 + n * 2) xs)) ≡ m = rw (length-take, length-drop) (omega (arith, k.there)) in
      rw (length_pairs n (drop 4 xs), e)
