-- Laws of reading at a position of the frame: padding, or a header.
use mathlib.Core.Path.{◌≡◌, refl}
use mathlib.Core.List.{List, ◌∷◌}
use Prim.Native.Nat.{ℕ, zero, suc, ◌+◌, ◌<◌}
use native.Mathlib.Omega.{arith}
use lib.ListN.{length, get_or, drop}
use lib.Seq.{drop-cons}
use Rattle.std.proofs.Common.{Ok}
use Rattle.wire.specs.declared.Version.{Version}
use Rattle.wire.specs.declared.Kind.TheVariants.{Skipped}
use Rattle.wire.specs.Message.{good, skipped, kind, content_length, span, answer}
use Rattle.wire.specs.Layout.{zeros, headed, read}
use Rattle.wire.proofs.Contents.{placed}

read-zero : (v : Version) (x : ℕ) (xs : List ℕ) → x ≡ 0 → read v (x ∷ xs) ≡ good skipped (zeros (x ∷ xs))
unfolding read zeros
read-zero v x xs e = rw e

read-other : (v : Version) (x : ℕ) (xs : List ℕ) → (x ≡ 0 → ⊥) → read v (x ∷ xs) ≡ headed v (x ∷ xs)
unfolding read
read-other v zero xs n = absurd (n refl)
read-other v (suc x) xs n = refl

module _ (v : Version) (frame : List ℕ) (at : ℕ) (here : at < length frame) where
  padding : get_or frame at 0 ≡ 0 → read v (drop at frame) ≡ good skipped (zeros (drop at frame))
  padding e = rw (drop-cons frame at 0) (read-zero v _ _ e)

  pub padded : (end : ℕ) → get_or frame at 0 ≡ 0 → end ≡ at + zeros (drop at frame)
      → Ok record { kind = Skipped; start = end; end = end } ≡ answer at (read v (drop at frame))
  unfolding answer span kind content_length
  padded end e z = rw (padding e) (placed refl (omega arith) (omega arith))

  pub header : (get_or frame at 0 ≡ 0 → ⊥) → read v (drop at frame) ≡ headed v (drop at frame)
  header n = rw (drop-cons frame at 0) (read-other v _ _ n)
