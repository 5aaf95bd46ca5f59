-- Items of one width, read and written one by one.
use mathlib.Core.List.{List, [], ◌∷◌, ◌++◌, append_assoc, append-nil}
use mathlib.Core.Path.{◌≡◌, refl, sym, ap, ◌∙◌}
use Prim.Native.Nat.{ℕ, zero, suc, ◌+◌, ◌*◌, ◌≤◌, ◌<◌}
use native.Mathlib.Nat.{add_comm, zero-mul, suc-mul}
use native.Mathlib.Numerals.{add-one}
use native.Mathlib.Omega.{arith}
use lib.ListN.{length, get_or, take, drop, set, length-append}
use lib.Seq.{take_all, take-suc, take-suc-set, drop-drop}
use Rattle.std.specs.Simd.{first_chunks}
use Rattle.octets.specs.Octets.{put}
use Rattle.octets.proofs.Put.{put-put}

-- part k of the parts of w octets
pub chunk_at : (w k n : ℕ) (xs : List ℕ) → k < n → get_or (first_chunks w n xs) k [] ≡ take w (drop (k * w) xs)
chunk_at w k zero xs h = absurd (omega arith)
chunk_at w zero (suc n) xs h = rw (zero-mul w) refl
chunk_at w (suc k) (suc n) xs h =
    let e : w + k * w ≡ suc k * w = add_comm w (k * w) ∙ sym (suc-mul k w) in
    chunk_at w k n (drop w xs) (omega arith) ∙ rw (drop-drop (k * w) w xs, e)

-- g reads n items of w octets, each by f
module _ {A : Type 0} (w : ℕ) (f : List ℕ → A) (g : ℕ → List ℕ → List A) (none : (xs : List ℕ) → g zero xs ≡ [])
    (more : (n : ℕ) (xs : List ℕ) → g (suc n) xs ≡ f xs ∷ g n (drop w xs)) where
  pub read-last : (k : ℕ) (xs : List ℕ) → g (suc k) xs ≡ g k xs ++ (f (drop (k * w) xs) ∷ [])
  read-last zero xs = more zero xs ∙ rw (none (drop w xs), none xs, zero-mul w)
  read-last (suc k) xs =
      let e : w + k * w ≡ suc k * w = add_comm w (k * w) ∙ sym (suc-mul k w) in
      more (suc k) xs ∙ rw (read-last k (drop w xs), more k xs, drop-drop (k * w) w xs, e)

  -- a turn of a loop that reads item k
  pub read-turn : (items : List A) (xs : List ℕ) (at k : ℕ) (v : A) → take k items ≡ g k (drop at xs) → k < length items → v ≡ f (drop (at + k * w) xs)
      → take (k + 1) (set items k v) ≡ g (k + 1) (drop at xs)
  read-turn items xs at k v e h ev = rw (add-one k, take-suc-set items k v h, e, ev, read-last k (drop at xs), drop-drop (k * w) at xs)

  pub read-end : (items : List A) (xs : List ℕ) (k n : ℕ) → take k items ≡ g k xs → length items ≡ n → n ≡ k → items ≡ g n xs
  read-end items xs k n e l h = sym (take_all n items (omega arith)) ∙ rw h e

-- g writes items one behind another, each by f
module _ {A : Type 0} (f : A → List ℕ) (g : List A → List ℕ) (none : g [] ≡ []) (more : (x : A) (xs : List A) → g (x ∷ xs) ≡ f x ++ g xs) where
  write-last : (xs : List A) (x : A) → g (xs ++ x ∷ []) ≡ g xs ++ f x
  write-last [] x = more x [] ∙ rw (none) (append-nil (f x))
  write-last (y ∷ ys) x = more y (ys ++ x ∷ []) ∙ rw (write-last ys x, more y ys, append_assoc (f y) (g ys) (f x))

  pub length-items : (w : ℕ) (xs : List A) → ((k : ℕ) (z : A) → k < length xs → length (f (get_or xs k z)) ≡ w) → length (g xs) ≡ length xs * w
  length-items w [] each = rw none (sym (zero-mul w))
  length-items w (x ∷ xs) each =
      rw (more x xs, length-append (f x) (g xs), each 0 x (omega arith), length-items w xs (λ k z h. each (suc k) z (omega arith))) (add_comm w (length xs * w) ∙ sym (suc-mul (length xs) w))

  -- a turn of a loop that writes item k
  pub write-turn : (w : ℕ) (d d' d'' : List ℕ) (items : List A) (at k : ℕ) (z : A) → d' ≡ put d at (g (take k items)) → length (g (take k items)) ≡ k * w
      → length (f (get_or items k z)) ≡ w → k < length items → at + k * w + w ≤ length d → d'' ≡ put d' (at + k * w) (f (get_or items k z))
      → (d'' ≡ put d at (g (take (k + 1) items))) × (length (g (take (k + 1) items)) ≡ (k + 1) * w)
  write-turn w d d' d'' items at k z e l lf h fits e'' =
      let one : g (take (k + 1) items) ≡ g (take k items) ++ f (get_or items k z) = rw (add-one k, take-suc items k z h) (write-last (take k items) (get_or items k z)) in (
        rw one (e'' ∙ rw e (put-put d at (at + k * w) (g (take k items)) (f (get_or items k z)) (ap (λ (n : ℕ). at + n) (sym l)) (omega arith))),
        rw (one, length-append (g (take k items)) (f (get_or items k z)), l, lf, add-one k) (sym (suc-mul k w)),
      )

  pub write-end : (d d' : List ℕ) (items : List A) (at k : ℕ) → d' ≡ put d at (g (take k items)) → length items ≤ k → d' ≡ put d at (g items)
  write-end d d' items at k e h = e ∙ rw (take_all k items h)
