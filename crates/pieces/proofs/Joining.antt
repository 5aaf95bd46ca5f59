-- Pieces in a cell, and their joining.
use mathlib.Core.Path.{◌≡◌, refl, sym, ◌∙◌}
use mathlib.Core.Bool.{Bool, true, false, cond}
use mathlib.Core.List.{List, [], ◌∷◌, ◌++◌, append_assoc, append-nil}
use mathlib.Core.Logic.{◌⊎◌, inl, inr, ⊎_elim}
use Prim.Native.Nat.{ℕ, zero, suc, ◌+◌, ◌-◌, ◌≤◌, ◌<◌}
use native.Mathlib.Nat.{eq-or-lt_of_le}
use native.Mathlib.Numerals.{add-one}
use native.Mathlib.Omega.{arith}
use lib.ListN.{length, take, drop, length-append, length-drop}
use lib.Seq.{length-take-le, drop-drop}
use lib.Dec.{eqb, ltb}
use borrow.Author.Tests.{eqb-true, eqb-false, lt-ltb, le-ltb, ltb-true, ltb-false}
use Rattle.octets.specs.Octets.{put, sum_of}
use Rattle.pieces.specs.declared.Order.{Order}
use Rattle.pieces.specs.declared.Order.TheVariants.{Rising, Falling}
use Rattle.pieces.specs.Pieces.{start_of, size_of, piece, joined, Joined}
use Rattle.pieces.specs.Search.{ordered}
use Rattle.octets.proofs.Flags.{bool}
use Rattle.octets.proofs.Put.{put-put}

pub piece-within : (i : ℕ) (is ls : List ℕ) → start_of i is ls + size_of i is ls ≤ sum_of ls
unfolding start_of size_of sum_of
piece-within i [] ls = omega arith
piece-within i (j ∷ js) [] = omega arith
piece-within i (j ∷ js) (l ∷ ls) = go (piece-within i js ls) (bool (eqb j i))
  where
    go : start_of i js ls + size_of i js ls ≤ sum_of ls → (eqb j i ≡ true) ⊎ (eqb j i ≡ false)
        → cond (eqb j i) 0 (l + start_of i js ls) + cond (eqb j i) l (size_of i js ls) ≤ l + sum_of ls
    go ih (inl e) = rw e (omega arith)
    go ih (inr e) = rw e (omega arith)

-- the lengths of the pieces of the indexes below n
unfoldable total : ℕ → List ℕ → List ℕ → ℕ
total zero is ls = 0
total (suc n) is ls = total n is ls + size_of n is ls

-- the first piece counts once, where its index is below n
total-cons : (n j l : ℕ) (js ls : List ℕ) → total n (j ∷ js) (l ∷ ls) ≤ cond (ltb j n) l 0 + total n js ls
unfolding total size_of
total-cons zero j l js ls = omega arith
total-cons (suc n) j l js ls = go (total-cons n j l js ls) (bool (eqb j n)) (bool (ltb j n))
  where
    go : total n (j ∷ js) (l ∷ ls) ≤ cond (ltb j n) l 0 + total n js ls → (eqb j n ≡ true) ⊎ (eqb j n ≡ false) → (ltb j n ≡ true) ⊎ (ltb j n ≡ false)
        → total n (j ∷ js) (l ∷ ls) + cond (eqb j n) l (size_of n js ls) ≤ cond (ltb j (suc n)) l 0 + (total n js ls + size_of n js ls)
    go ih (inl e) q =
        let z : j ≡ n = eqb-true j n e in
        let p : ltb j n ≡ false = le-ltb j n (omega arith) in
        let h : total n (j ∷ js) (l ∷ ls) ≤ 0 + total n js ls = rw p at ih in
        rw (e, lt-ltb j (suc n) (omega arith)) (omega arith)
    go ih (inr e) (inl q) =
        let z : j < n = ltb-true j n q in
        let h : total n (j ∷ js) (l ∷ ls) ≤ l + total n js ls = rw q at ih in
        rw (e, lt-ltb j (suc n) (omega arith)) (omega arith)
    go ih (inr e) (inr q) =
        let ne = eqb-false j n e in
        let z : n ≤ j = ltb-false j n q in
        let y : n < j = ⊎_elim (λ w. absurd (ne (sym w))) (λ w. w) (eq-or-lt_of_le z) in
        let h : total n (j ∷ js) (l ∷ ls) ≤ 0 + total n js ls = rw q at ih in
        rw (e, le-ltb j (suc n) (omega arith)) (omega arith)

pick_le : (b : Bool) (l : ℕ) → cond b l 0 ≤ l
pick_le true l = omega arith
pick_le false l = omega arith

total-none : (n : ℕ) (is ls : List ℕ) → ((i : ℕ) → size_of i is ls ≡ 0) → total n is ls ≡ 0
unfolding total
total-none zero is ls z = refl
total-none (suc n) is ls z = omega (arith, total-none n is ls z, z n)

total-fits : (n : ℕ) (is ls : List ℕ) → total n is ls ≤ sum_of ls
unfolding sum_of size_of
total-fits n [] ls = omega (arith, total-none n [] ls (λ i. refl))
total-fits n (j ∷ js) [] = omega (arith, total-none n (j ∷ js) [] (λ i. refl))
total-fits n (j ∷ js) (l ∷ ls) = omega (arith, total-cons n j l js ls, pick_le (ltb j n) l, total-fits n js ls)

-- the first k of n pieces, in the order in which they are joined
unfoldable pub front : Order → ℕ → ℕ → List ℕ → List ℕ → List ℕ → List ℕ
front order n zero is ls cell = []
front order n (suc k) is ls cell = front order n k is ls cell ++ piece (ordered order n k) is ls cell

pub ordered-low : (order : Order) (n k : ℕ) → k < n → ordered order n k < n
ordered-low Falling n k h = omega arith
ordered-low Rising n k h = h

module _ (is ls cell : List ℕ) where
  front_rises : (n k : ℕ) → front Rising n k is ls cell ≡ joined Rising k is ls cell
  unfolding front joined
  front_rises n zero = refl
  front_rises n (suc k) = rw (front_rises n k)

  front-falls : (n k : ℕ) → k ≤ n → front Falling n k is ls cell ++ joined Falling (n - k) is ls cell ≡ joined Falling n is ls cell
  unfolding front joined
  front-falls n zero h = let z : n - 0 ≡ n = omega arith in rw z
  front-falls n (suc k) h =
      let e : n - k ≡ suc (n - suc k) = omega arith in
      append_assoc (front Falling n k is ls cell) (piece (n - suc k) is ls cell) (joined Falling (n - suc k) is ls cell) ∙ (rw e at (front-falls n k (omega arith)))

  front-all : (order : Order) (n : ℕ) → front order n n is ls cell ≡ joined order n is ls cell
  unfolding joined
  front-all Rising n = front_rises n n
  front-all Falling n =
      let z : n - n ≡ 0 = omega arith in
      sym (append-nil (front Falling n n is ls cell)) ∙ (rw z at (front-falls n n (omega arith)))

module _ (is ls cell : List ℕ) (fits : sum_of ls ≤ length cell) where
  length-piece : (i : ℕ) → length (piece i is ls cell) ≡ size_of i is ls
  unfolding piece
  length-piece i = length-take-le (size_of i is ls) (drop (start_of i is ls) cell) (simp length-drop (omega (arith, piece-within i is ls)))

  length-joined : (order : Order) (n : ℕ) → length (joined order n is ls cell) ≡ total n is ls
  unfolding joined total
  length-joined order zero = refl
  length-joined Falling (suc n) = simp (length-append, length-joined Falling n, length-piece n) (omega arith)
  length-joined Rising (suc n) = simp (length-append, length-joined Rising n, length-piece n)

  pub joined-fits : (order : Order) (n : ℕ) → length (joined order n is ls cell) ≤ sum_of ls
  joined-fits order n = rw (length-joined order n) (total-fits n is ls)

  front_fits : (order : Order) (n k : ℕ) → k ≤ n → length (front order n k is ls cell) ≤ sum_of ls
  front_fits Rising n k h = rw (front_rises is ls cell n k) (joined-fits Rising k)
  front_fits Falling n k h =
      let e = length-append (front Falling n k is ls cell) (joined Falling (n - k) is ls cell) in
      let f : length (front Falling n k is ls cell ++ joined Falling (n - k) is ls cell) ≡ length (joined Falling n is ls cell) = rw (front-falls is ls cell n k h) in
      omega (arith, joined-fits Falling n)

  module _ (order : Order) (n k : ℕ) (below : k < n) where
    abbrev i : ℕ
    i = ordered order n k

    front-next : length (front order n k is ls cell) + size_of i is ls ≡ length (front order n (k + 1) is ls cell)
    unfolding front
    front-next = rw (add-one, length-append (front order n k is ls cell) (piece i is ls cell), length-piece i)

    -- one piece more behind those joined
    pub front-turn : (at : ℕ) (out₀ out after octets : List ℕ) → sum_of ls ≤ length out₀ → at ≡ length (front order n k is ls cell) → out ≡ put out₀ 0 (front order n k is ls cell)
        → octets ≡ piece i is ls cell → after ≡ put out at octets → after ≡ put out₀ 0 (front order n (k + 1) is ls cell)
    unfolding front
    front-turn at out₀ out after octets room ek eo e p =
        let f : at + length (piece i is ls cell) ≤ length out₀ = omega (arith, length-piece i, front-next, front_fits order n (k + 1) (omega arith)) in
        rw (p, e, eo, add-one) (put-put out₀ 0 at (front order n k is ls cell) (piece i is ls cell) (omega arith) f)

    -- where it ends, within the output
    pub front-part : (at : ℕ) → at ≡ length (front order n k is ls cell) → (at + size_of i is ls ≡ length (front order n (k + 1) is ls cell)) × (at + size_of i is ls ≤ sum_of ls)
    front-part at e = let f = front-next in let g = front_fits order n (k + 1) (omega arith) in (omega arith, omega arith)

  pub front-done : (order : Order) (n k at : ℕ) (out₀ out : List ℕ) → k ≡ n → at ≡ length (front order n k is ls cell) → out ≡ put out₀ 0 (front order n k is ls cell)
      → Joined (joined order n is ls cell) out₀ at out
  front-done order n k at out₀ out e ek eo = let z = front-all is ls cell order n in record { size = rw (e, z) at ek; output = rw (e, z) at eo }

  pub front-zero : (order : Order) (n : ℕ) (out : List ℕ) → out ≡ put out 0 (front order n 0 is ls cell)
  unfolding front put
  front-zero order n out = refl

-- the first piece, or a piece behind it
pub piece-cons : (i j l : ℕ) (js ls cell : List ℕ) → piece i (j ∷ js) (l ∷ ls) cell ≡ cond (eqb j i) (take l cell) (piece i js ls (drop l cell))
unfolding piece size_of start_of
piece-cons i j l js ls cell = go (bool (eqb j i))
  where
    go : (eqb j i ≡ true) ⊎ (eqb j i ≡ false)
        → take (cond (eqb j i) l (size_of i js ls)) (drop (cond (eqb j i) 0 (l + start_of i js ls)) cell) ≡ cond (eqb j i) (take l cell) (take (size_of i js ls) (drop (start_of i js ls) (drop l cell)))
    go (inl e) = rw e
    go (inr e) = rw (e, drop-drop (start_of i js ls) l cell)
