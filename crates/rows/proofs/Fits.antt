-- A content that fits its kind is long enough.
use mathlib.Core.Bool.{true}
use mathlib.Core.Path.{◌≡◌}
use Prim.Native.Nat.{ℕ, ◌≤◌}
use borrow.Author.Tests.{leb-true, eqb-true}
use Rattle.wire.specs.Layout.{fitting}
use Rattle.wire.specs.declared.Kind.{Kind}
use Rattle.wire.specs.declared.Kind.TheVariants as Kinds

module _ (k : Kind) (n : ℕ) (fits : fitting k n ≡ true) where
  pub segment-long : k ≡ Kinds.Segment → 8 ≤ n
  unfolding fitting
  segment-long e = leb-true 8 n (rw e at fits)

  pub end-long : k ≡ Kinds.End → 8 ≤ n
  unfolding fitting
  end-long e = leb-true 8 n (rw e at fits)

  pub cancel-long : k ≡ Kinds.Cancel → n ≡ 4
  unfolding fitting
  cancel-long e = eqb-true n 4 (rw e at fits)
