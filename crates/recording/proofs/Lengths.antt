-- Loops over the lengths of frames.
use mathlib.Core.Path.{◌≡◌, refl, sym}
use mathlib.Core.Bool.{◌&&◌, and_assoc, and-true}
use mathlib.Core.List.{List, [], ◌∷◌, ◌++◌}
use Prim.Native.Nat.{ℕ, ◌+◌, ◌<◌}
use native.Mathlib.Numerals.{add-one}
use lib.ListN.{length, take, get_or}
use lib.Seq.{take-suc}
use lib.Dec.{leb}
use Rattle.octets.specs.Octets.{pairs, put}
use Rattle.octets.proofs.Put.{read_back}
use Rattle.octets.proofs.Pairs.{length_pairs}
use Rattle.wire.specs.Frame.{frame_max}
use Rattle.recording.specs.Recording.{sized}

sized-append : (ns ms : List ℕ) → sized (ns ++ ms) ≡ (sized ns && sized ms)
unfolding sized
sized-append [] ms = refl
sized-append (n ∷ ns) ms = rw (sized-append ns ms) (sym (and_assoc (leb 1 n && leb n frame_max) (sized ns) (sized ms)))

-- the lengths up to one more
pub sized-next : (ns : List ℕ) (k : ℕ) → k < length ns → (sized (take k ns) && (leb 1 (get_or ns k 0) && leb (get_or ns k 0) frame_max)) ≡ sized (take (k + 1) ns)
unfolding sized
sized-next ns k h = rw (add-one, take-suc ns k 0 h, sized-append (take k ns) (get_or ns k 0 ∷ []), and-true)

-- the lengths that were read
pub lengths_front : (d₀ d xs : List ℕ) (n : ℕ) → d ≡ put d₀ 0 (pairs n xs) → take n d ≡ pairs n xs
lengths_front d₀ d xs n e = rw length_pairs at (read_back d₀ d (pairs n xs) e)
