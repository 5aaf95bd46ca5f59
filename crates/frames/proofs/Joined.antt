-- Frames from their lengths and their joined octets.
use mathlib.Core.List.{List, [], ◌∷◌}
use mathlib.Core.Path.{◌≡◌, refl, ap, ◌∙◌}
use Prim.Native.Nat.{ℕ, zero, suc, ◌+◌, ◌≤◌}
use native.Mathlib.Omega.{arith}
use lib.ListN.{length, take, drop, length-take, length-drop}
use lib.Seq.{drop-drop}
use Rattle.octets.specs.Octets.{sum_of}
use Rattle.frames.specs.Frames.{frames_of}

unfoldable pub octets_in : List (List ℕ) → ℕ
octets_in [] = 0
octets_in (f ∷ fs) = length f + octets_in fs

pub frames_fit : (ns os : List ℕ) → octets_in (frames_of ns os) ≤ length os
unfolding octets_in frames_of
frames_fit [] os = omega arith
frames_fit (n ∷ ns) os = omega (arith, frames_fit ns (drop n os), length-take n os, length-drop n os)

pub frames_many : (ns os : List ℕ) → length (frames_of ns os) ≡ length ns
unfolding frames_of
frames_many [] os = refl
frames_many (n ∷ ns) os = ap suc (frames_many ns (drop n os))

-- the frames from frame k on
pub frames-from : (k : ℕ) (ns os : List ℕ) → drop k (frames_of ns os) ≡ frames_of (drop k ns) (drop (sum_of (take k ns)) os)
unfolding frames_of sum_of
frames-from zero ns os = refl
frames-from (suc k) [] os = refl
frames-from (suc k) (n ∷ ns) os = frames-from k ns (drop n os) ∙ ap (frames_of (drop k ns)) (drop-drop (sum_of (take k ns)) n os)
