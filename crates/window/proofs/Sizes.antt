-- The three windows.
use Rattle.std.proofs.Common.{◌≡◌, ℕ, ◌≤◌, true, false, eqb, ◌⊎◌, refl, inl, inr, arith, eqb-true}
use Rattle.octets.proofs.Flags.{bool}
use Rattle.window.specs.Window.{Window, four, eight, sixteen, is_window}

pub window_of_lem : (w : ℕ) → is_window w ≡ true → Window w
window_of_lem w h = go (bool (eqb w 4)) (bool (eqb w 8)) (bool (eqb w 16))
  where
    at : (n : ℕ) → Window n → eqb w n ≡ true → Window w
    at n p e = rw (eqb-true w n e) p

    go : (eqb w 4 ≡ true) ⊎ (eqb w 4 ≡ false) → (eqb w 8 ≡ true) ⊎ (eqb w 8 ≡ false) → (eqb w 16 ≡ true) ⊎ (eqb w 16 ≡ false) → Window w
    go (inl a) b c = at 4 four a
    go (inr a) (inl b) c = at 8 eight b
    go (inr a) (inr b) (inl c) = at 16 sixteen c
    go (inr a) (inr b) (inr c) = let z : false ≡ true = rw (a, b, c) at h in absurd (let y : ◌≡◌ {A = ℕ} 0 1 = cc in omega arith)

pub is_window_lem : (w : ℕ) → Window w → is_window w ≡ true
is_window_lem w four = refl
is_window_lem w eight = refl
is_window_lem w sixteen = refl

pub window_range : (w : ℕ) → Window w → (4 ≤ w) × (w ≤ 16)
window_range w four = (omega arith, omega arith)
window_range w eight = (omega arith, omega arith)
window_range w sixteen = (omega arith, omega arith)

pub the_least : (w : ℕ) → Window w → (w ≡ 16 → ⊥) → (w ≡ 8 → ⊥) → w ≡ 4
the_least w four a b = refl
the_least w eight a b = absurd (b refl)
the_least w sixteen a b = absurd (a refl)
