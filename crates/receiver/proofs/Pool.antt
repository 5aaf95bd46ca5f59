-- Cells of the pool after one of them is put: it holds what was put, and the others stay.
use mathlib.Core.Path.{◌≡◌, sym, ap, ◌∙◌}
use mathlib.Core.Bool.{true, false}
use mathlib.Core.List.{List, ◌++◌, append_assoc}
use mathlib.Core.Logic.{◌⊎◌, inl, inr}
use Prim.Native.Nat.{ℕ, ◌+◌, ◌-◌, ◌*◌, ◌≤◌, ◌<◌}
use native.Mathlib.Omega.{arith}
use lib.ListN.{length, get_or, take, drop, length-append, get_or-append}
use lib.Seq.{take_at, drop_at, length-take-le, ext_get_or, get_or-take, get_or-drop, get_or-append-add}
use lib.Dec.{ltb}
use borrow.Author.Tests.{ltb-true, ltb-false}
use Rattle.octets.specs.Octets.{put}
use Rattle.octets.proofs.Flags.{bool}
use Rattle.pieces.specs.Pieces.{bundle_max}
use Rattle.rows.specs.Message.{cell_at, put_cell}
use Rattle.messages.proofs.Cells.{cell-within, length-cell, length-put-cell}

-- octets before and behind what is put stay
module _ (d : List ℕ) (at : ℕ) (vs : List ℕ) (within : at + length vs ≤ length d) where
  front : length (take at d) ≡ at
  front = length-take-le at d (omega arith)

  put-before : (j : ℕ) → j < at → get_or (put d at vs) j 0 ≡ get_or d j 0
  unfolding put
  put-before j h =
      get_or-append (take at d ++ vs) (drop (at + length vs) d) 0 j (omega (arith, length-append (take at d) vs, front))
      ∙ get_or-append (take at d) vs 0 j (omega (arith, front)) ∙ get_or-take at d j 0 h

  put_behind : (j : ℕ) → at + length vs ≤ j → get_or (put d at vs) j 0 ≡ get_or d j 0
  unfolding put
  put_behind j h =
      let n : ℕ = j - (at + length vs) in
      let e : j ≡ length (take at d ++ vs) + n = omega (arith, length-append (take at d) vs, front) in
      let e' : at + length vs + n ≡ j = omega arith in
      ap (λ i. get_or (put d at vs) i 0) e ∙ get_or-append-add (take at d ++ vs) (drop (at + length vs) d) n 0 ∙ get_or-drop (at + length vs) d n 0 ∙ ap (λ i. get_or d i 0) e'

at-cell : (pool : List ℕ) (r i : ℕ) → i < bundle_max → get_or (cell_at pool r) i 0 ≡ get_or pool (r * bundle_max + i) 0
unfolding cell_at
at-cell pool r i h = get_or-take bundle_max (drop (r * bundle_max) pool) i 0 h ∙ get_or-drop (r * bundle_max) pool i 0

module _ (w : ℕ) (pool : List ℕ) (full : length pool ≡ w * bundle_max) (r : ℕ) (r< : r < w) (cell : List ℕ) (sized : length cell ≡ bundle_max) where
  within : r * bundle_max + length cell ≤ length pool
  within = omega (arith, cell-within w pool full r r<)

  pub cell-put : cell_at (put_cell pool r cell) r ≡ cell
  unfolding put_cell cell_at put
  cell-put =
      let n : ℕ = r * bundle_max in
      let rest : List ℕ = drop (n + length cell) pool in
      rw (append_assoc (take n pool) cell rest, drop_at (take n pool) (cell ++ rest) n (front pool n cell within)) (take_at cell rest bundle_max sized)

  pub cell_other : (s : ℕ) → s < w → (s ≡ r → ⊥) → cell_at (put_cell pool r cell) s ≡ cell_at pool s
  unfolding put_cell
  cell_other s s< ne =
      let l₁ = length-cell w (put_cell pool r cell) (length-put-cell w pool full r r< cell sized) s s< in
      let l₂ = length-cell w pool full s s< in
      ext_get_or 0 (cell_at (put_cell pool r cell) s) (cell_at pool s) (l₁ ∙ sym l₂)
      (λ i h. let h' : i < bundle_max = omega arith in at-cell (put_cell pool r cell) s i h' ∙ stays i h' (bool (ltb s r)) ∙ sym (at-cell pool s i h'))
    where
      stays : (i : ℕ) → i < bundle_max → (ltb s r ≡ true) ⊎ (ltb s r ≡ false) → get_or (put pool (r * bundle_max) cell) (s * bundle_max + i) 0 ≡ get_or pool (s * bundle_max + i) 0
      stays i h (inl e) = put-before pool (r * bundle_max) cell within (s * bundle_max + i) (omega (arith, ltb-true s r e))
      stays i h (inr e) = put_behind pool (r * bundle_max) cell within (s * bundle_max + i) (omega (arith, ltb-false s r e, ne))
