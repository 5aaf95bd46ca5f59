-- Which rows a new number enters: those of the numbers after the greatest, its own the last of them.
use Rattle.std.proofs.Common.{◌≡◌, ℕ, zero, suc, ◌+◌, ◌-◌, ◌/◌, ◌%◌, ◌^◌, ◌<◌, ◌≤◌, Bool, true, false, eqb, leb, ◌⊎◌, sym, refl, ap, ◌∙◌, inl, inr, arith, le-ltb, lt-ltb}
use borrow.Author.Tests.{eqb-false}
use Rattle.octets.proofs.Flags.{bool}
use Rattle.window.specs.declared.Standing.TheVariants.{Inside, New, Outside}
use Rattle.window.proofs.Sizes.{window_range}
use Rattle.window.specs.Window.{Window, four, eight, sixteen, distance, standing, standing_of, row_of, ahead, enters}

pub row_below : (w : ℕ) → Window w → (n : ℕ) → row_of w n < w
row_below w four n = omega arith
row_below w eight n = omega arith
row_below w sixteen n = omega arith

ahead-below : (w : ℕ) → Window w → (g r : ℕ) → ahead w g r < w
ahead-below w win g r = row_below w win _

-- the row of the number j places behind the first after g
pub ahead-row : (w : ℕ) → Window w → (g j : ℕ) → j < w → ahead w g ((g % w + 1 + j) % w) ≡ j
ahead-row w four g j h = omega arith
ahead-row w eight g j h = omega arith
ahead-row w sixteen g j h = omega arith

pub row-ahead : (w : ℕ) → Window w → (g r : ℕ) → r < w → r ≡ (g % w + 1 + ahead w g r) % w
row-ahead w four g r h = omega arith
row-ahead w eight g r h = omega arith
row-ahead w sixteen g r h = omega arith

row-own : (w : ℕ) → Window w → (g t : ℕ) → g < 2 ^ 32 → t < 2 ^ 32 → row_of w t ≡ (g + distance g t) % w
row-own w four g t a b = omega arith
row-own w eight g t a b = omega arith
row-own w sixteen g t a b = omega arith

ahead_after : (w : ℕ) → Window w → (g d : ℕ) → 0 < d → ahead w g ((g + d) % w) ≡ (d - 1) % w
ahead_after w four g d h = omega arith
ahead_after w eight g d h = omega arith
ahead_after w sixteen g d h = omega arith

mod-le : (w : ℕ) → Window w → (n : ℕ) → n % w ≤ n
mod-le w four n = omega arith
mod-le w eight n = omega arith
mod-le w sixteen n = omega arith

module _ (w : ℕ) (win : Window w) (g t : ℕ) (g< : g < 2 ^ 32) (t< : t < 2 ^ 32) where
  ahead_own : 0 < distance g t → ahead w g (row_of w t) ≡ (distance g t - 1) % w
  ahead_own h = rw (row-own w win g t g< t<) (ahead_after w win g (distance g t) h)

  -- a new number's own row is entered
  pub own-enters : 0 < distance g t → enters w g (distance g t) (row_of w t) ≡ true
  unfolding enters
  own-enters h = rw (lt-ltb (row_of w t) w (row_below w win t)) (lt-ltb (ahead w g (row_of w t)) (distance g t) (omega (arith, ahead_own h, mod-le w win (distance g t - 1))))

  -- and is the only one where the number is the next
  pub next-enters : distance g t ≡ 1 → (r : ℕ) → r < w → (r ≡ row_of w t → ⊥) → enters w g 1 r ≡ false
  unfolding enters
  next-enters e r r< other =
      let own : ahead w g (row_of w t) ≡ 0 = omega (arith, ahead_own (omega arith), mod-le w win (distance g t - 1)) in
      rw (lt-ltb r w r<) (le-ltb (ahead w g r) 1 (apart (ahead w g r) λ z. other (row-ahead w win g r r< ∙ ap (λ n. (g % w + 1 + n) % w) (z ∙ sym own) ∙ sym (row-ahead w win g (row_of w t) (row_below w win t)))))
    where
      apart : (n : ℕ) → (n ≡ 0 → ⊥) → 1 ≤ n
      apart zero h = absurd (h refl)
      apart (suc n) h = omega arith

-- every row is entered by as many numbers as there are rows
pub all_enter : (w : ℕ) → Window w → (g d r : ℕ) → r < w → w ≤ d → enters w g d r ≡ true
unfolding enters
all_enter w win g d r r< h = rw (lt-ltb r w r<) (lt-ltb (ahead w g r) d (omega (arith, ahead-below w win g r)))

-- a row beyond the window is no number's
pub none_beyond : (w g d r : ℕ) → w ≤ r → enters w g d r ≡ false
unfolding enters
none_beyond w g d r h = rw (le-ltb r w h)

-- what a new number enters
pub record Entered (w g t d : ℕ) : Type 0 where
  pub some : 0 < d
  pub own : enters w g d (row_of w t) ≡ true
  pub others : d ≡ 1 → (r : ℕ) → r < w → (r ≡ row_of w t → ⊥) → enters w g 1 r ≡ false

new-distance : (w d e : ℕ) → standing w d ≡ New e → (d ≡ e) × (0 < d)
unfolding standing
new-distance w d e h = go (bool (eqb d 0)) (bool (leb d (2147483647 + w / 2))) (bool (leb d (2 ^ 32 - w)))
  where
    go : (eqb d 0 ≡ true) ⊎ (eqb d 0 ≡ false) → (leb d (2147483647 + w / 2) ≡ true) ⊎ (leb d (2147483647 + w / 2) ≡ false) → (leb d (2 ^ 32 - w) ≡ true) ⊎ (leb d (2 ^ 32 - w) ≡ false)
        → (d ≡ e) × (0 < d)
    go (inl a) b c = let z : Inside ≡ New e = rw a at h in absurd (let y : ◌≡◌ {A = ℕ} 0 1 = cc in omega arith)
    go (inr a) (inl b) c = let z : New d ≡ New e = rw (a, b) at h in (cc, omega (arith, eqb-false d 0 a))
    go (inr a) (inr b) (inl c) = let z : Outside ≡ New e = rw (a, b, c) at h in absurd (let y : ◌≡◌ {A = ℕ} 0 1 = cc in omega arith)
    go (inr a) (inr b) (inr c) = let z : Inside ≡ New e = rw (a, b, c) at h in absurd (let y : ◌≡◌ {A = ℕ} 0 1 = cc in omega arith)

pub entered : (w : ℕ) → Window w → (present : Bool) (g t d : ℕ) → g < 2 ^ 32 → t < 2 ^ 32 → standing_of w present g t ≡ New d → Entered w g t d
unfolding standing_of
entered w win true g t d g< t< h =
    let n = new-distance w (distance g t) d h in
    record {
      some = omega (arith, n.0, n.1);
      own = rw n.0 at (own-enters w win g t g< t< n.1);
      others = λ e. next-enters w win g t g< t< (n.0 ∙ e);
    }
entered w win false g t d g< t< h =
    let e : w ≡ d = cc in
    let some : 4 ≤ w = (window_range w win).0 in
    record { some = omega arith; own = all_enter w win g d (row_of w t) (row_below w win t) (omega arith); others = λ q. absurd (omega arith) }

-- a number is inside only where there is a greatest number
pub inside_present : (w g : ℕ) (p : Bool) (t : ℕ) → standing_of w p g t ≡ Inside → p ≡ true
unfolding standing_of
inside_present w g true t e = refl
inside_present w g false t e = absurd (let z : ◌≡◌ {A = ℕ} 0 1 = cc in omega arith)
