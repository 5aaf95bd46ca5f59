-- The note of where each index lies is right: a piece more keeps it so.
use mathlib.Core.Path.{◌≡◌, refl, sym, ◌∙◌}
use mathlib.Core.Bool.{Bool, true, false, cond, not, ◌||◌}
use mathlib.Core.List.{List, [], ◌∷◌, ◌++◌}
use mathlib.Core.Logic.{◌⊎◌, inl, inr}
use Prim.Native.Nat.{ℕ, ◌+◌, ◌≤◌, ◌<◌}
use native.Mathlib.Numerals.{add-one}
use native.Mathlib.Omega.{arith}
use lib.ListN.{length, get_or, take, drop, set, replicate, get_or-replicate}
use lib.Seq.{get_or-set_same, get_or-set_other, length-take-le, take-suc}
use lib.Dec.{eqb}
use borrow.Author.Tests.{eqb-true, eqb-false, ne_eqb}
use Rattle.octets.proofs.Flags.{bool, neither, cond_elim}
use Rattle.octets.specs.Octets.{sum_of}
use Rattle.pieces.specs.Pieces.{has, start_of, size_of, piece}
use Rattle.pieces.specs.Note.{absent, Right}
use Rattle.pieces.specs.Search.{noted}
use Rattle.pieces.proofs.Appending.{has-append}
use Rattle.pieces.proofs.Joining.{piece-within}

-- ---- where an index lies among the pieces of two lists, one behind the other

-- the first piece is that of the index, or not; then the index is held behind it, or not
size-cons : (own held : Bool) (l n v d : ℕ) → n ≡ cond held v d → cond own l n ≡ cond (own || held) (cond own l v) d
size-cons true held l n v d e = refl
size-cons false held l n v d e = e

start-cons : (own held : Bool) (l s v m d : ℕ) → s ≡ cond held v (m + d) → cond own 0 (l + s) ≡ cond (own || held) (cond own 0 (l + v)) (l + m + d)
start-cons true held l s v m d e = refl
start-cons false true l s v m d e = omega arith
start-cons false false l s v m d e = omega arith

module _ (i : ℕ) where
  size-append : (is js ls ns : List ℕ) → length is ≡ length ls → size_of i (is ++ js) (ls ++ ns) ≡ cond (has i is) (size_of i is ls) (size_of i js ns)
  unfolding has size_of
  size-append [] js [] ns q = refl
  size-append [] js (l ∷ ls) ns q = absurd (omega arith)
  size-append (x ∷ is) js [] ns q = absurd (omega arith)
  size-append (x ∷ is) js (l ∷ ls) ns q = size-cons (eqb x i) (has i is) l _ _ _ (size-append is js ls ns (omega arith))

  start-append : (is js ls ns : List ℕ) → length is ≡ length ls → start_of i (is ++ js) (ls ++ ns) ≡ cond (has i is) (start_of i is ls) (sum_of ls + start_of i js ns)
  unfolding has start_of sum_of
  start-append [] js [] ns q = omega arith
  start-append [] js (l ∷ ls) ns q = absurd (omega arith)
  start-append (x ∷ is) js [] ns q = absurd (omega arith)
  start-append (x ∷ is) js (l ∷ ls) ns q = start-cons (eqb x i) (has i is) l _ _ (sum_of ls) _ (start-append is js ls ns (omega arith))

  -- an index that is not held has no octets
  lacking : (is ls : List ℕ) → has i is ≡ false → size_of i is ls ≡ 0
  unfolding has size_of
  lacking [] ls e = refl
  lacking (j ∷ js) [] e = refl
  lacking (j ∷ js) (l ∷ ls) e = let p = neither (eqb j i) (has i js) e in rw p.0 (lacking js ls p.1)

-- ---- one piece more

-- an entry of the note, where v is right for a held index and d for another; a new index gets x
entry-turn : (i j x v d : ℕ) (new : Bool → ℕ) (held : Bool) (starts xs : List ℕ) → new true ≡ x → i < length xs → eqb (get_or starts i 0) absent ≡ not held → get_or xs i 0 ≡ cond held v d
    → get_or (noted starts j x xs) i 0 ≡ cond (held || (eqb j i || false)) (cond held v (new (eqb j i))) d
unfolding noted
entry-turn i j x v d new held starts xs n h = go held (bool (eqb j i))
  where
    other : eqb j i ≡ false → get_or (cond (eqb (get_or starts j 0) absent) (set xs j x) xs) i 0 ≡ get_or xs i 0
    other q = cond_elim (λ (ys : List ℕ). get_or ys i 0 ≡ get_or xs i 0) (eqb (get_or starts j 0) absent) (λ _. get_or-set_other xs j i x 0 (λ z. eqb-false j i q (sym z))) (λ _. refl)

    go : (held : Bool) → (eqb j i ≡ true) ⊎ (eqb j i ≡ false) → eqb (get_or starts i 0) absent ≡ not held → get_or xs i 0 ≡ cond held v d
        → get_or (cond (eqb (get_or starts j 0) absent) (set xs j x) xs) i 0 ≡ cond (held || (eqb j i || false)) (cond held v (new (eqb j i))) d
    go true (inl q) a e = rw (eqb-true j i q, a) e
    go false (inl q) a e = rw (q, eqb-true j i q, a, n) (get_or-set_same xs i x 0 h)
    go true (inr q) a e = other q ∙ e
    go false (inr q) a e = rw q (other q ∙ e)

module _ (is ls starts sizes : List ℕ) (R : Right is ls starts sizes) where
  absent-other : sum_of ls < absent → (i : ℕ) → i < 64 → eqb (get_or starts i 0) absent ≡ not (has i is)
  absent-other low i h = rw (R.start i h) (go (bool (has i is)))
    where
      go : (has i is ≡ true) ⊎ (has i is ≡ false) → eqb (cond (has i is) (start_of i is ls) absent) absent ≡ not (has i is)
      go (inl e) = rw e (ne_eqb (start_of i is ls) absent (λ q. omega (arith, piece-within i is ls)))
      go (inr e) = rw e

  right-snoc : (j l : ℕ) → length is ≡ length ls → sum_of ls < absent → length starts ≡ 64 → length sizes ≡ 64
      → Right (is ++ j ∷ []) (ls ++ l ∷ []) (noted starts j (sum_of ls) starts) (noted starts j l sizes)
  unfolding has start_of size_of
  right-snoc j l even low f g =
      record {
        start = λ i h.
            rw (has-append i is (j ∷ []), start-append i is (j ∷ []) ls (l ∷ []) even)
            (entry-turn i j (sum_of ls) _ _ (λ (new : Bool). sum_of ls + cond new 0 (l + 0)) (has i is) starts starts (omega arith) (omega arith) (absent-other low i h) (R.start i h));
        size = λ i h.
            rw (has-append i is (j ∷ []), size-append i is (j ∷ []) ls (l ∷ []) even)
            (entry-turn i j l _ _ (λ (new : Bool). cond new l 0) (has i is) starts sizes refl (omega arith) (absent-other low i h) (R.size i h));
      }

pub right-none : Right [] [] (replicate 64 absent) (replicate 64 0)
unfolding has
right-none = record { start = λ i h. get_or-replicate {A = ℕ} 64 i absent 0 h; size = λ i h. get_or-replicate {A = ℕ} 64 i 0 0 h }

-- a turn of the loop: the piece at place k is noted
pub right-turn : (k start : ℕ) (is ls starts sizes starts' sizes' : List ℕ) → Right (take k is) (take k ls) starts sizes → k < length is → k < length ls
    → start ≡ sum_of (take k ls) → start < absent → length starts ≡ 64 → length sizes ≡ 64
    → starts' ≡ noted starts (get_or is k 0) start starts → sizes' ≡ noted starts (get_or is k 0) (get_or ls k 0) sizes
    → Right (take (k + 1) is) (take (k + 1) ls) starts' sizes'
right-turn k start is ls starts sizes starts' sizes' R p q s low f g es ez =
    let even = length-take-le k is (omega arith) ∙ sym (length-take-le k ls (omega arith)) in
    rw (es, ez, add-one, take-suc is k 0 p, take-suc ls k 0 q, s) (right-snoc _ _ _ _ R (get_or is k 0) (get_or ls k 0) even (omega arith) f g)

-- ---- what a right note says of the piece that is copied

pub record Lies (i : ℕ) (is ls cell : List ℕ) (start n : ℕ) : Type 0 where
  pub size : n ≡ size_of i is ls
  pub within : 0 < n → start + n ≤ length cell
  pub octets : take n (drop start cell) ≡ piece i is ls cell

pub lies : (is ls starts sizes cell : List ℕ) → Right is ls starts sizes → sum_of ls ≤ length cell → (i : ℕ) → i < 64 → Lies i is ls cell (get_or starts i 0) (get_or sizes i 0)
unfolding piece
lies is ls starts sizes cell R fits i h = go (bool (has i is)) (R.start i h) (R.size i h)
  where
    go : (has i is ≡ true) ⊎ (has i is ≡ false) → get_or starts i 0 ≡ cond (has i is) (start_of i is ls) absent → get_or sizes i 0 ≡ cond (has i is) (size_of i is ls) 0
        → Lies i is ls cell (get_or starts i 0) (get_or sizes i 0)
    go (inl e) s n =
        let start : get_or starts i 0 ≡ start_of i is ls = rw e at s in
        let size : get_or sizes i 0 ≡ size_of i is ls = rw e at n in
        record { size = size; within = λ _. omega (arith, piece-within i is ls); octets = rw (start, size) }
    go (inr e) s n =
        let size : get_or sizes i 0 ≡ 0 = rw e at n in
        let z : size_of i is ls ≡ 0 = lacking i is ls e in
        record { size = omega arith; within = λ p. absurd (omega arith); octets = rw (size, z) }
