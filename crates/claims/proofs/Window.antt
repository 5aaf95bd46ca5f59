-- The window table along an honest record's numbers.
use mathlib.Core.Path.{◌≡◌, sym, ap, ◌∙◌}
use mathlib.Core.Bool.{true, false}
use mathlib.Core.Logic.{◌⊎◌, inl, inr}
use Prim.Native.Nat.{ℕ, ◌+◌, ◌-◌, ◌%◌, ◌/◌, ◌^◌, ◌≤◌, ◌<◌}
use native.Mathlib.Omega.{arith}
use lib.Dec.{eqb, leb}
use borrow.Author.Tests.{eqb-true, eqb-false, eq-eqb, ne_eqb, le-ltb, lt-ltb, le-leb, lt-leb}
use Rattle.octets.proofs.Flags.{bool, cond_elim}
use Rattle.wire.specs.Message.{Message}
use Rattle.window.specs.declared.Standing.TheVariants.{Inside, New, Outside}
use Rattle.window.proofs.Sizes.{window_range}
use Rattle.window.proofs.Entering.{row_below}
use Rattle.window.specs.Window.{Window, four, eight, sixteen, distance, standing, row_of, ahead, enters}
use Rattle.claims.specs.Record.{Transfers, number_at, is_last, piece_at}
use Rattle.claims.proofs.Track.{comes, event}

module _ (T : Transfers) where
  pub place_of : (k : ℕ) → k < T.count → distance T.first (number_at T k) ≡ k
  unfolding number_at
  place_of k h = omega (arith, T.few, T.start)

  pub piece-event : (k i : ℕ) → k < T.count → event T.first (piece_at T k i) ≡ comes k i
  unfolding event piece_at
  piece-event k i k< = cond_elim (λ (m : Message). event T.first m ≡ comes k i) (is_last (T.pieces k) i) (λ e. rw (place_of k k<)) (λ e. rw (place_of k k<))

  pub same_place : (j k : ℕ) → j < T.count → k < T.count → number_at T j ≡ number_at T k → j ≡ k
  same_place j k j< k< e = sym (place_of j j<) ∙ ap (distance T.first) e ∙ place_of k k<

  ahead-by : (g k : ℕ) → g ≤ k → k < T.count → distance (number_at T g) (number_at T k) ≡ k - g
  unfolding number_at
  ahead-by g k le h = omega (arith, T.few)

  behind_by : (g k : ℕ) → k < g → g < T.count → distance (number_at T g) (number_at T k) ≡ 2 ^ 32 - (g - k)
  unfolding number_at
  behind_by g k lt h = omega (arith, T.few)

pub window_size : (w : ℕ) → Window w → (0 < w) × (w ≤ 16) × (w / 2 ≤ 8)
window_size w win = let r : (4 ≤ w) × (w ≤ 16) = window_range w win in (omega arith, r.1, omega arith)

-- rows, from the numbers' places
row_number : (w : ℕ) → Window w → (n : ℕ) → n % 2 ^ 32 % w ≡ n % w
row_number _ four n = omega arith
row_number _ eight n = omega arith
row_number _ sixteen n = omega arith

row_new : (w : ℕ) → Window w → (x g k j : ℕ) → g < j → j ≤ k → k < j + w → ((x + j) % w + (w - 1) + (w - (x + g) % w)) % w < k - g
row_new _ four x g k j a b c = omega arith
row_new _ eight x g k j a b c = omega arith
row_new _ sixteen x g k j a b c = omega arith

row_old : (w : ℕ) → Window w → (x g k j : ℕ) → j ≤ g → g ≤ k → k < j + w → k - g ≤ ((x + j) % w + (w - 1) + (w - (x + g) % w)) % w
row_old _ four x g k j a b c = omega arith
row_old _ eight x g k j a b c = omega arith
row_old _ sixteen x g k j a b c = omega arith

row_apart : (w : ℕ) → Window w → (x j k : ℕ) → j < k + w → k < j + w → (j ≡ k → ⊥) → (x + j) % w ≡ (x + k) % w → ⊥
row_apart _ four x j k a b ne = omega arith
row_apart _ eight x j k a b ne = omega arith
row_apart _ sixteen x j k a b ne = omega arith

module _ (w : ℕ) (win : Window w) (T : Transfers) where
  pub enters-new : (g k j : ℕ) → g < j → j ≤ k → k < j + w → enters w (number_at T g) (k - g) (row_of w (number_at T j)) ≡ true
  unfolding enters number_at
  enters-new g k j a b c = rw (lt-ltb (row_of w (number_at T j)) w (row_below w win (number_at T j))) (lt-ltb (ahead w (number_at T g) (row_of w (number_at T j))) (k - g) (rw (row_number w win (T.first + j), row_number w win (T.first + g)) (row_new w win T.first g k j a b c)))

  pub enters-old : (g k j : ℕ) → j ≤ g → g ≤ k → k < j + w → enters w (number_at T g) (k - g) (row_of w (number_at T j)) ≡ false
  unfolding enters number_at
  enters-old g k j a b c = rw (lt-ltb (row_of w (number_at T j)) w (row_below w win (number_at T j))) (le-ltb (ahead w (number_at T g) (row_of w (number_at T j))) (k - g) (rw (row_number w win (T.first + j), row_number w win (T.first + g)) (row_old w win T.first g k j a b c)))

  pub other_row : (j k : ℕ) → j < k + w → k < j + w → (j ≡ k → ⊥) → row_of w (number_at T j) ≡ row_of w (number_at T k) → ⊥
  unfolding number_at
  other_row j k a b ne = rw (row_number w win (T.first + j), row_number w win (T.first + k)) (row_apart w win T.first j k a b ne)

  pub standing-new : (g k : ℕ) → g < k → k < T.count → standing w (distance (number_at T g) (number_at T k)) ≡ New (k - g)
  unfolding standing
  standing-new g k lt h = rw (ahead-by T g k (omega arith) h, ne_eqb (k - g) 0 (omega arith), le-leb (k - g) (2147483647 + w / 2) (omega (arith, T.few)))

  module _ (g k : ℕ) (lt : k < g) (g< : g < T.count) where
    abbrev d : ℕ
    d = 2 ^ 32 - (g - k)

    e₁ : eqb d 0 ≡ false
    e₁ = ne_eqb d 0 (omega (arith, T.few))

    e₂ : leb d (2147483647 + w / 2) ≡ false
    e₂ = lt-leb d (2147483647 + w / 2) (omega (arith, T.few, window_size w win))

    behind_in : g < k + w → standing w (distance (number_at T g) (number_at T k)) ≡ Inside
    unfolding standing
    behind_in near = rw (behind_by T g k lt g<, e₁, e₂, lt-leb d (2 ^ 32 - w) (omega (arith, window_size w win)))

    behind_out : k + w ≤ g → standing w (distance (number_at T g) (number_at T k)) ≡ Outside
    unfolding standing
    behind_out far = rw (behind_by T g k lt g<, e₁, e₂, le-leb d (2 ^ 32 - w) (omega arith))

  pub standing-out : (g k : ℕ) → k + w ≤ g → g < T.count → standing w (distance (number_at T g) (number_at T k)) ≡ Outside
  standing-out g k far h = behind_out g k (omega (arith, window_size w win)) h far

  pub standing-in : (g k : ℕ) → k ≤ g → g < k + w → g < T.count → standing w (distance (number_at T g) (number_at T k)) ≡ Inside
  unfolding standing
  standing-in g k le near h = go (bool (eqb k g))
    where
      go : (eqb k g ≡ true) ⊎ (eqb k g ≡ false) → standing w (distance (number_at T g) (number_at T k)) ≡ Inside
      go (inl e) = let q : k ≡ g = eqb-true k g e in rw (ahead-by T g k (omega arith) (omega arith), eq-eqb (k - g) 0 (omega arith))
      go (inr e) = let q = eqb-false k g e in behind_in g k (omega arith) h near
