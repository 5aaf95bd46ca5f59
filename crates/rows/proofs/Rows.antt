-- The rows of a state: those that a new number frees, and their soundness.
use mathlib.Core.Bool.{Bool, true, false, cond, ◌&&◌, ◌||◌, and-false, false≢true}
use mathlib.Core.List.{List, [], ◌∷◌, map}
use mathlib.Core.Logic.{◌⊎◌, inl, inr}
use mathlib.Core.Path.{◌≡◌, refl, sym, ap, ◌∙◌}
use Prim.Native.Nat.{ℕ, zero, suc, min, ◌+◌, ◌%◌, ◌≤◌, ◌<◌}
use native.Mathlib.Nat.{add-zero}
use native.Mathlib.Numerals.{add-one}
use native.Mathlib.Omega.{arith}
use lib.Dec.{eqb, ltb}
use lib.ListN.{length, get_or, set, length-set, length-map}
use lib.Seq.{ext_get_or, get_or-set_same, get_or-set_other, set-get_or}
use borrow.Author.Tests.{eqb-true, eqb-false, ltb-true, ltb-false, lt-ltb, le-ltb}
use Rattle.std.specs.List.{list_all, enumerate_from}
use Rattle.octets.proofs.Flags.{bool, and, both, or_left, or_right, cond_elim}
use Rattle.window.specs.Window.{Window, is_window, row_of, ahead, enters}
use Rattle.window.proofs.Sizes.{window_of_lem}
use Rattle.window.proofs.Entering.{Entered, ahead-row, row-ahead, row_below, all_enter, none_beyond}
use Rattle.row.specs.Row.{empty_row, sound_row}
use Rattle.row.specs.declared.Phase.{Phase}
use Rattle.row.specs.declared.Phase.TheVariants.{Free, Open, Done, Cancelled, Abandoned}
use Rattle.row.specs.declared.Row.{Row}
use Rattle.row.proofs.Shaped.{Shaped}
use Rattle.row.proofs.Sound.{empty-sound, free-empty}
use Rattle.rows.specs.Message.{freed_from}
use Rattle.rows.specs.State.{window_of, is_free, sound_in, sound_from, sound}
use Rattle.rows.specs.declared.State.{State}

-- for `search`: an array's relation says its length of the list of its elements' fields
pub length_mapped : (X Y : Type 0) (f : X → Y) (l : List X) (n : ℕ) → length (map f l) ≡ n → length l ≡ n
length_mapped X Y f l n e = sym (length-map l f) ∙ e

-- what is past the end does not matter within a list
pub get_or_any : (rows : List Row) (i : ℕ) (y z : Row) → i < length rows → get_or rows i y ≡ get_or rows i z
get_or_any [] i y z h = absurd (omega arith)
get_or_any (x ∷ xs) zero y z h = refl
get_or_any (x ∷ xs) (suc i) y z h = get_or_any xs i y z (omega arith)

-- ---- soundness, row by row

module _ (w : ℕ) (present : Bool) where
  -- a test of each row with its number
  pub sound_all : (r : ℕ) (rows : List Row) → list_all (λ (p : ℕ × Row). sound_in (present && ltb p.0 w) p.1) (enumerate_from r rows) ≡ sound_from w r present rows
  unfolding sound_from
  sound_all r [] = refl
  sound_all r (x ∷ xs) = rw (add-one r, sound_all (suc r) xs)

  pub sound-get : (r : ℕ) (rows : List Row) (k : ℕ) (z : Row) → k < length rows → sound_from w r present rows ≡ true → sound_in (present && ltb (r + k) w) (get_or rows k z) ≡ true
  unfolding sound_from
  sound-get r [] k z h s = absurd (omega arith)
  sound-get r (x ∷ xs) zero z h s = rw add-zero (both (sound_in (present && ltb r w) x) (sound_from w (suc r) present xs) s).0
  sound-get r (x ∷ xs) (suc k) z h s =
      let e : suc r + k ≡ r + suc k = omega arith in
      rw (← e) (sound-get (suc r) xs k z (omega arith) (both (sound_in (present && ltb r w) x) (sound_from w (suc r) present xs) s).1)

  pub sound-set : (r : ℕ) (rows : List Row) (k : ℕ) (x : Row) → sound_from w r present rows ≡ true → sound_in (present && ltb (r + k) w) x ≡ true → sound_from w r present (set rows k x) ≡ true
  unfolding sound_from
  sound-set r [] k x s e = refl
  sound-set r (y ∷ ys) zero x s e = and (sound_in (present && ltb r w) x) (sound_from w (suc r) present ys) (rw add-zero at e) (both (sound_in (present && ltb r w) y) (sound_from w (suc r) present ys) s).1
  sound-set r (y ∷ ys) (suc k) x s e =
      let p = both (sound_in (present && ltb r w) y) (sound_from w (suc r) present ys) s in
      let q : r + suc k ≡ suc r + k = omega arith in
      and (sound_in (present && ltb r w) y) (sound_from w (suc r) present (set ys k x)) p.0 (sound-set (suc r) ys k x p.1 (rw q at e))

-- where a number is the greatest, a row of the window need not be free
pub sound-in : (present : Bool) (r : Row) → sound_row r ≡ true → present ≡ true → sound_in present r ≡ true
sound-in present r s e = and (sound_row r) (present || is_free r.phase) s (or_left present (is_free r.phase) e)

-- a free row is sound anywhere
pub free_in : (present : Bool) → sound_in present (empty_row Free) ≡ true
free_in true = and (sound_row (empty_row Free)) true (empty-sound Free refl) refl
free_in false = and (sound_row (empty_row Free)) true (empty-sound Free refl) refl

more-in : (a b : Bool) (r : Row) → (a ≡ true → b ≡ true) → sound_in a r ≡ true → sound_in b r ≡ true
more-in true b r h s = sound-in b r (both (sound_row r) true s).0 (h refl)
more-in false b r h s =
    let p = both (sound_row r) (is_free r.phase) s in
    and (sound_row r) (b || is_free r.phase) p.0 (or_right b (is_free r.phase) p.1)

pub sound_present : (w r : ℕ) (present : Bool) (rows : List Row) → sound_from w r present rows ≡ true → sound_from w r true rows ≡ true
unfolding sound_from
sound_present w r present [] s = refl
sound_present w r present (x ∷ xs) s =
    let p = both (sound_in (present && ltb r w) x) (sound_from w (suc r) present xs) s in
    and (sound_in (ltb r w) x) (sound_from w (suc r) true xs) (more-in (present && ltb r w) (ltb r w) x (λ e. (both present (ltb r w) e).1) p.0) (sound_present w (suc r) present xs p.1)

pub sound_freed : (w r g d : ℕ) (rows : List Row) → sound_from w r true rows ≡ true → sound_from w r true (freed_from w r g d rows) ≡ true
unfolding sound_from freed_from
sound_freed w r g d [] s = refl
sound_freed w r g d (x ∷ xs) s =
    let p = both (sound_in (ltb r w) x) (sound_from w (suc r) true xs) s in
    and (sound_in (ltb r w) (cond (enters w g d r) (empty_row Free) x)) (sound_from w (suc r) true (freed_from w (suc r) g d xs))
    (cond_elim (λ (y : Row). sound_in (ltb r w) y ≡ true) (enters w g d r) (λ _. free_in (ltb r w)) (λ _. p.0)) (sound_freed w (suc r) g d xs p.1)

module _ (s : State) where
  abbrev known : Bool
  known = s.present || eqb s.greatest 0

  -- the parts of a sound state
  pub sound-parts : sound s ≡ true → (is_window (window_of s) ≡ true) × (known ≡ true) × (sound_from (window_of s) 0 s.present s.rows ≡ true)
  unfolding sound
  sound-parts h =
      let p = both (is_window (window_of s) && known) (sound_from (window_of s) 0 s.present s.rows) h in
      let q = both (is_window (window_of s)) known p.0 in
      (q.0, q.1, p.1)

  pub sound-whole : is_window (window_of s) ≡ true → known ≡ true → sound_from (window_of s) 0 s.present s.rows ≡ true → sound s ≡ true
  unfolding sound
  sound-whole a b c = and (is_window (window_of s) && known) (sound_from (window_of s) 0 s.present s.rows) (and (is_window (window_of s)) known a b) c

  pub sound-window : sound s ≡ true → Window (window_of s)
  sound-window h = window_of_lem (window_of s) (sound-parts h).0

  -- a row beyond the window carries no meaning: it is Free, its entries zero
  pub beyond-free : sound s ≡ true → (r : ℕ) → window_of s ≤ r → r < length s.rows → Shaped (get_or s.rows r (empty_row Free)) → get_or s.rows r (empty_row Free) ≡ empty_row Free
  beyond-free h r w≤ r< z =
      let x : Row = get_or s.rows r (empty_row Free) in
      let one = sound-get (window_of s) s.present 0 s.rows r (empty_row Free) r< (sound-parts h).2 in
      let none : (s.present && ltb (0 + r) (window_of s)) ≡ false = rw (le-ltb (0 + r) (window_of s) (omega arith)) (and-false s.present) in
      let p = both (sound_row x) (is_free x.phase) (rw none at one) in
      free-empty x z p.0 (free_phase x.phase p.1)
    where
      free_phase : (f : Phase) → is_free f ≡ true → f ≡ Free
      free_phase Free e = refl
      free_phase Open e = absurd (false≢true e)
      free_phase Done e = absurd (false≢true e)
      free_phase Cancelled e = absurd (false≢true e)
      free_phase Abandoned e = absurd (false≢true e)

-- ---- the rows that become free

pub length_freed : (w r g d : ℕ) (rows : List Row) → length (freed_from w r g d rows) ≡ length rows
unfolding freed_from
length_freed w r g d [] = refl
length_freed w r g d (x ∷ xs) = ap suc (length_freed w (suc r) g d xs)

pub get_or_freed : (w r g d : ℕ) (rows : List Row) (i : ℕ) (z : Row) → i < length rows → get_or (freed_from w r g d rows) i z ≡ cond (enters w g d (r + i)) (empty_row Free) (get_or rows i z)
unfolding freed_from
get_or_freed w r g d [] i z h = absurd (omega arith)
get_or_freed w r g d (x ∷ xs) zero z h = rw add-zero
get_or_freed w r g d (x ∷ xs) (suc i) z h =
    let e : suc r + i ≡ r + suc i = omega arith in
    get_or_freed w (suc r) g d xs i z (omega arith) ∙ rw e

-- two lists of as many rows are equal where they agree at each row
same_rows : (n : ℕ) (xs ys : List Row) → length xs ≡ n → length ys ≡ n → ((i : ℕ) → i < n → get_or xs i (empty_row Free) ≡ get_or ys i (empty_row Free)) → xs ≡ ys
same_rows n xs ys a b h = ext_get_or (empty_row Free) xs ys (a ∙ sym b) λ i i<. h i (omega arith)

pub freed_at : (w g d : ℕ) (rows : List Row) (i : ℕ) → i < length rows → get_or (freed_from w 0 g d rows) i (empty_row Free) ≡ cond (enters w g d i) (empty_row Free) (get_or rows i (empty_row Free))
freed_at w g d rows i h = get_or_freed w 0 g d rows i (empty_row Free) h ∙ rw (zero-add i)
  where
    zero-add : (n : ℕ) → 0 + n ≡ n
    zero-add n = omega arith

-- what holds of the rows of the window and of those beyond
split : {P : Type 0} (i w : ℕ) → (i < w → P) → (w ≤ i → P) → P
split {P} i w a b = go (bool (ltb i w))
  where
    go : (ltb i w ≡ true) ⊎ (ltb i w ≡ false) → P
    go (inl e) = a (ltb-true i w e)
    go (inr e) = b (ltb-false i w e)

module _ (w : ℕ) (win : Window w) (g : ℕ) (rows : List Row) (full : w ≤ length rows) where
  abbrev n : ℕ
  n = length rows

  -- no number enters
  pub freed-none : freed_from w 0 g 0 rows ≡ rows
  unfolding enters
  freed-none = same_rows n _ rows (length_freed w 0 g 0 rows) refl λ i h. freed_at w g 0 rows i h ∙ rw (le-ltb (ahead w g i) 0 (omega arith), and-false (ltb i w))

  -- as many numbers as rows, or more
  freed_all : (d : ℕ) → w ≤ d → freed_from w 0 g w rows ≡ freed_from w 0 g d rows
  freed_all d h =
      same_rows n _ _ (length_freed w 0 g w rows) (length_freed w 0 g d rows)
      λ i i<. freed_at w g w rows i i< ∙ rw (same i) (sym (freed_at w g d rows i i<))
    where
      same : (i : ℕ) → enters w g w i ≡ enters w g d i
      same i = split i w (λ l. all_enter w win g w i l (omega arith) ∙ sym (all_enter w win g d i l h)) (λ l. none_beyond w g w i l ∙ sym (none_beyond w g d i l))

  -- the numbers beyond the window's size free no further row
  pub freed-least : (d : ℕ) → freed_from w 0 g (min d w) rows ≡ freed_from w 0 g d rows
  freed-least d = go (bool (ltb d w))
    where
      go : (ltb d w ≡ true) ⊎ (ltb d w ≡ false) → freed_from w 0 g (min d w) rows ≡ freed_from w 0 g d rows
      go (inl e) = ap (λ (k : ℕ). freed_from w 0 g k rows) (omega (arith, ltb-true d w e))
      go (inr e) = ap (λ (k : ℕ). freed_from w 0 g k rows) (omega (arith, ltb-false d w e)) ∙ freed_all d (ltb-false d w e)

  -- where numbers are skipped the rows are freed; the row of the number itself is replaced
  module _ (t d : ℕ) (E : Entered w g t d) where
    own-free : get_or (freed_from w 0 g d rows) (row_of w t) (empty_row Free) ≡ empty_row Free
    own-free = freed_at w g d rows (row_of w t) (omega (arith, row_below w win t)) ∙ rw E.own

    own-set : (x : Row) → set (cond (ltb 1 d) (freed_from w 0 g d rows) rows) (row_of w t) x ≡ set (freed_from w 0 g d rows) (row_of w t) x
    own-set x = go (bool (ltb 1 d))
      where
        next : d ≡ 1 → set rows (row_of w t) x ≡ set (freed_from w 0 g d rows) (row_of w t) x
        next e =
            same_rows n _ _ (length-set rows (row_of w t) x) (length-set (freed_from w 0 g d rows) (row_of w t) x ∙ length_freed w 0 g d rows)
            λ i i<. at i i< (bool (eqb i (row_of w t)))
          where
            at : (i : ℕ) → i < n → (eqb i (row_of w t) ≡ true) ⊎ (eqb i (row_of w t) ≡ false) → get_or (set rows (row_of w t) x) i (empty_row Free) ≡ get_or (set (freed_from w 0 g d rows) (row_of w t) x) i (empty_row Free)
            at i i< (inl q) =
                let s : i ≡ row_of w t = eqb-true i (row_of w t) q in
                rw s (get_or-set_same rows (row_of w t) x (empty_row Free) (omega (arith, s)) ∙ sym (get_or-set_same (freed_from w 0 g d rows) (row_of w t) x (empty_row Free) (omega (arith, s, length_freed w 0 g d rows))))
            at i i< (inr q) =
                let other : i ≡ row_of w t → ⊥ = eqb-false i (row_of w t) q in
                let none : enters w g d i ≡ false = rw e (split i w (λ l. E.others e i l other) (none_beyond w g 1 i)) in
                get_or-set_other rows (row_of w t) i x (empty_row Free) other
                ∙ sym (get_or-set_other (freed_from w 0 g d rows) (row_of w t) i x (empty_row Free) other ∙ freed_at w g d rows i i< ∙ rw none)

        go : (ltb 1 d ≡ true) ⊎ (ltb 1 d ≡ false) → set (cond (ltb 1 d) (freed_from w 0 g d rows) rows) (row_of w t) x ≡ set (freed_from w 0 g d rows) (row_of w t) x
        go (inl e) = rw e
        go (inr e) = rw e (next (omega (arith, ltb-false 1 d e, E.some)))

    pub own-opened : set (cond (ltb 1 d) (freed_from w 0 g d rows) rows) (row_of w t) (empty_row Free) ≡ freed_from w 0 g d rows
    own-opened = own-set (empty_row Free) ∙ ap (set (freed_from w 0 g d rows) (row_of w t)) (sym own-free) ∙ set-get_or (freed_from w 0 g d rows) (row_of w t) (empty_row Free)

  -- the row of one number more
  module _ (j : ℕ) (j< : j < w) where
    abbrev k : ℕ
    k = (g % w + 1 + j) % w

    entered_more : (i : ℕ) → (i ≡ k → ⊥) → enters w g (j + 1) i ≡ enters w g j i
    unfolding enters
    entered_more i other = split i w (λ l. here l (bool (ltb (ahead w g i) j))) (λ l. none_beyond w g (j + 1) i l ∙ sym (none_beyond w g j i l))
      where
        here : i < w → (ltb (ahead w g i) j ≡ true) ⊎ (ltb (ahead w g i) j ≡ false) → enters w g (j + 1) i ≡ enters w g j i
        here l (inl e) = rw (lt-ltb (ahead w g i) (j + 1) (omega (arith, ltb-true (ahead w g i) j e)), e)
        here l (inr e) =
            let apart : ahead w g i ≡ j → ⊥ = λ q. other (row-ahead w win g i l ∙ ap (λ n. (g % w + 1 + n) % w) q) in
            rw (le-ltb (ahead w g i) (j + 1) (omega (arith, ltb-false (ahead w g i) j e, apart)), e)

    pub freed-turn : set (freed_from w 0 g j rows) k (empty_row Free) ≡ freed_from w 0 g (j + 1) rows
    unfolding enters
    freed-turn = same_rows n _ _ (length-set (freed_from w 0 g j rows) k (empty_row Free) ∙ length_freed w 0 g j rows) (length_freed w 0 g (j + 1) rows) λ i i<. go i i< (bool (eqb i k))
      where
        go : (i : ℕ) → i < n → (eqb i k ≡ true) ⊎ (eqb i k ≡ false) → get_or (set (freed_from w 0 g j rows) k (empty_row Free)) i (empty_row Free) ≡ get_or (freed_from w 0 g (j + 1) rows) i (empty_row Free)
        go i i< (inl e) =
            let same : i ≡ k = eqb-true i k e in
            let here : ahead w g i ≡ j = ap (ahead w g) same ∙ ahead-row w win g j j< in
            let in' : ltb (ahead w g i) (j + 1) ≡ true = lt-ltb (ahead w g i) (j + 1) (omega arith) in
            let low : ltb i w ≡ true = lt-ltb i w (omega (arith, same, row_below w win (g % w + 1 + j))) in
            let left : get_or (set (freed_from w 0 g j rows) k (empty_row Free)) i (empty_row Free) ≡ empty_row Free =
            rw same (get_or-set_same (freed_from w 0 g j rows) k (empty_row Free) (empty_row Free) (omega (arith, length_freed w 0 g j rows, same, i<))) in
            left ∙ sym (freed_at w g (j + 1) rows i i< ∙ rw (low, in'))
        go i i< (inr e) =
            let other : i ≡ k → ⊥ = eqb-false i k e in
            get_or-set_other (freed_from w 0 g j rows) k i (empty_row Free) (empty_row Free) other
            ∙ freed_at w g j rows i i< ∙ rw (← entered_more i other) (sym (freed_at w g (j + 1) rows i i<))
