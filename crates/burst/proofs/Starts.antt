-- Where the frames of a burst start in the joined octets.
use mathlib.Core.List.{List, [], ◌∷◌}
use mathlib.Core.Path.{◌≡◌, sym, ◌∙◌}
use Prim.Native.Nat.{ℕ, zero, suc, ◌+◌, ◌-◌, ◌≤◌, ◌<◌}
use native.Mathlib.Numerals.{add-one}
use native.Mathlib.Omega.{arith}
use lib.ListN.{length, get_or, take, drop, length-drop, drop_of_length-le}
use lib.Seq.{take_all, drop-cons}
use Rattle.octets.specs.Octets.{sum_of}
use Rattle.frames.specs.Frames.{frames_of}
use Rattle.frames.proofs.Joined.{frames-from, frames_many}

pub sum-split : (k : ℕ) (ns : List ℕ) → sum_of ns ≡ sum_of (take k ns) + sum_of (drop k ns)
unfolding sum_of
sum-split zero ns = omega arith
sum-split (suc k) [] = omega arith
sum-split (suc k) (n ∷ ns) = omega (arith, sum-split k ns)

-- a part of n octets, as the code takes it
pub part : (s at n : ℕ) (os : List ℕ) → s ≡ at → take (s + n - s) (drop s os) ≡ take n (drop at os)
part s at n os e = let width : s + n - s ≡ n = omega arith in rw (width, e)

rest_all : (k : ℕ) (xs : List ℕ) → take (length xs - k) (drop k xs) ≡ drop k xs
rest_all k xs = take_all (length xs - k) (drop k xs) (rw length-drop (omega arith))

-- the parts from frame k on, as the code lends them
pub frames-parts : (k s : ℕ) (ns os : List ℕ) → s ≡ sum_of (take k ns) → frames_of (take (length ns - k) (drop k ns)) (take (length os - s) (drop s os)) ≡ drop k (frames_of ns os)
frames-parts k s ns os e = rw (rest_all k ns, rest_all s os, e) (sym (frames-from k ns os))

pub parts_fit : (k s : ℕ) (ns os : List ℕ) → s ≡ sum_of (take k ns) → length os ≡ sum_of ns → sum_of (take (length ns - k) (drop k ns)) ≤ length (take (length os - s) (drop s os))
parts_fit k s ns os e even = rw (rest_all k ns, rest_all s os, length-drop) (omega (arith, sum-split k ns))

pub parts-few : (k : ℕ) (ns : List ℕ) → length (take (length ns - k) (drop k ns)) ≡ length ns - k
parts-few k ns = rw (rest_all k ns) (length-drop k ns)

module _ (k : ℕ) (ns os : List ℕ) where
  abbrev pub start_of : ℕ
  start_of = sum_of (take k ns)

  pub none-behind : k ≡ length ns → drop k (frames_of ns os) ≡ []
  none-behind e = drop_of_length-le (frames_of ns os) {i = k} (omega (arith, frames_many ns os))

  module _ (k< : k < length ns) where
    abbrev n : ℕ
    n = get_or ns k 0

    here : drop k ns ≡ n ∷ drop (k + 1) ns
    here = drop-cons ns k 0 k< ∙ rw add-one

    -- frame k, and the frames behind it
    pub frame_at : drop k (frames_of ns os) ≡ take n (drop start_of os) ∷ frames_of (drop (k + 1) ns) (drop n (drop start_of os))
    unfolding frames_of
    frame_at = frames-from k ns os ∙ rw here

    -- it lies within the octets
    pub within : start_of + n ≤ sum_of ns
    unfolding sum_of
    within = let e : sum_of (drop k ns) ≡ n + sum_of (drop (k + 1) ns) = rw here in omega (arith, sum-split k ns, e)
