-- The row of a number whose pieces come in falling order of their indexes, from the highest, n less one, to 0 (draft 00).
use mathlib.Core.Path.{◌≡◌, refl, ◌∙◌}
use mathlib.Core.Bool.{true, false, ◌||◌, or-true}
use mathlib.Core.Logic.{◌⊎◌, inl, inr}
use mathlib.Core.List.{List, [], ◌∷◌, ◌++◌, map, append_assoc, map-append}
use Prim.Native.Nat.{ℕ, zero, suc, ◌+◌, ◌-◌, ◌≤◌, ◌<◌}
use native.Mathlib.Omega.{arith}
use lib.ListN.{length, length-append, replicate, length-replicate}
use lib.Seq.{get_or-append_seam}
use lib.Dec.{eqb}
use borrow.Author.Tests.{eqb-false, ne_eqb}
use Rattle.octets.proofs.Flags.{bool}
use Rattle.row.specs.declared.Row.{Row}
use Rattle.row.specs.declared.Phase.TheVariants.{Free}
use Rattle.octets.specs.Octets.{sum_of}
use Rattle.pieces.specs.declared.Order.TheVariants.{Falling}
use Rattle.pieces.specs.Pieces.{bundle_max, has, has_all}
use Rattle.row.specs.Row.{empty_row}
use Rattle.reassembly.specs.Rules.{Outcome, piece_step}
use Rattle.pieces.proofs.Lists.{all_lacks}
use Rattle.claims.specs.Demand3.{join}
use Rattle.claims.proofs.Held.{has-snoc, has_all_lem}
use Rattle.claims.proofs.Track.{live, settled, add, newly}
use Rattle.claims.proofs.Carries.{Continued, Ended}
use Rattle.claims.proofs.Pieces.{sum-append, Holds, Represents, Stepped, bundle_if, holds-none, piece-step}
use Rattle.claims.proofs.InOrder.{Fits}

-- the k highest indexes below n, in falling order
unfoldable down : ℕ → ℕ → List ℕ
down n zero = []
down n (suc k) = down n k ++ (n - suc k) ∷ []

new : (n k j : ℕ) → j + k < n → has j (down n k) ≡ false
unfolding down has
new n zero j h = refl
new n (suc k) j h = has-snoc j (n - suc k) (down n k) ∙ rw (new n k j (omega arith), ne_eqb (n - suc k) j (omega arith))

held : (n k j : ℕ) → j < n → n ≤ j + k → has j (down n k) ≡ true
unfolding down
held n zero j l h = absurd (omega arith)
held n (suc k) j l h = has-snoc j (n - suc k) (down n k) ∙ go (held n k j l) (bool (eqb (n - suc k) j))
  where
    go : (n ≤ j + k → has j (down n k) ≡ true) → (eqb (n - suc k) j ≡ true) ⊎ (eqb (n - suc k) j ≡ false) → (has j (down n k) || eqb (n - suc k) j) ≡ true
    go ih (inl e) = rw e (or-true (has j (down n k)))
    go ih (inr e) = let ne = eqb-false (n - suc k) j e in rw (ih (omega arith))

-- The row holds ps, by index the last of n pieces, whatever the pieces before them are.
pub InFalling : ℕ → List (List ℕ) → Row → List ℕ → Type 0
InFalling n ps r cell = (qs : List (List ℕ)) (q : List ℕ) → Fits (qs ++ q ∷ ps) → length (qs ++ q ∷ ps) ≡ n → Holds (qs ++ q ∷ ps) r cell (down n (length ps))

pub in-falling-none : (n : ℕ) (cell : List ℕ) → length cell ≡ bundle_max → InFalling n [] (empty_row Free) cell
unfolding InFalling down
in-falling-none n cell l qs q f e = holds-none (qs ++ q ∷ []) cell l

sum-empty : (i : ℕ) → sum_of (map length (replicate {A = List ℕ} i [])) ≡ 0
unfolding sum_of
sum-empty zero = refl
sum-empty (suc i) = let e = sum-empty i in omega arith

module _ (n : ℕ) (ps : List (List ℕ)) (x : List ℕ) (r : Row) (cell : List ℕ) (h : InFalling n ps r cell) (full : length cell ≡ bundle_max) where
  size : (qs : List (List ℕ)) → length (qs ++ x ∷ ps) ≡ suc (length qs + length ps)
  size qs = length-append qs (x ∷ ps) ∙ omega arith

  abbrev i : ℕ
  i = n - suc (length ps)

  abbrev after : Outcome
  after = piece_step Falling (eqb (i + 1) n) i x r cell

  -- piece x comes, a start if it is the first, and qs are to follow
  comes : (qs : List (List ℕ)) → Fits (qs ++ x ∷ ps) → length (qs ++ x ∷ ps) ≡ n → Stepped (qs ++ x ∷ ps) Falling after (live (down n (length ps))) (settled n (down n (suc (length ps))))
  unfolding InFalling Represents add down
  comes qs f e =
      let k : length qs ≡ n - suc (length ps) = omega (arith, size qs) in
      rw (get_or-append_seam qs x ps [], new n (length ps) (length qs) (omega (arith, size qs)), e, k) at
      (piece-step (qs ++ x ∷ ps) Falling f.few f.small (length qs) r cell (live (down n (length ps))) (h qs x f e) full (omega (arith, size qs)))

  continues : (qs : List (List ℕ)) (q : List ℕ) → Fits (qs ++ q ∷ x ∷ ps) → length (qs ++ q ∷ x ∷ ps) ≡ n → Stepped (qs ++ q ∷ x ∷ ps) Falling after (live (down n (length ps))) (live (down n (suc (length ps))))
  unfolding settled
  continues qs q f e =
      let l : length (qs ++ q ∷ x ∷ ps) ≡ suc (suc (length qs + length ps)) = length-append qs (q ∷ x ∷ ps) ∙ omega arith in
      let g : (qs ++ q ∷ []) ++ x ∷ ps ≡ qs ++ q ∷ x ∷ ps = append_assoc qs (q ∷ []) (x ∷ ps) in
      let lacks : has_all n (down n (suc (length ps))) ≡ false = all_lacks n 0 (down n (suc (length ps))) (omega arith) (new n (suc (length ps)) 0 (omega arith)) in
      rw (g, lacks) at (comes (qs ++ q ∷ []) (rw g f) (rw g e))

  -- with pieces to follow
  pub falls-on : suc (suc (length ps)) ≤ n → n ≤ 64 → sum_of (map length (x ∷ ps)) ≤ bundle_max → Continued (InFalling n (x ∷ ps)) after
  unfolding InFalling Represents newly bundle_if sum_of
  falls-on more few small =
      let k : ℕ = n - suc (suc (length ps)) in
      let qs : List (List ℕ) = replicate k [] in
      let l : length qs ≡ k = length-replicate k [] in
      let sum : sum_of (map length (qs ++ [] ∷ x ∷ ps)) ≤ bundle_max = rw (map-append length qs ([] ∷ x ∷ ps), sum-append, sum-empty k) (bound small) in
      let long : length (qs ++ [] ∷ x ∷ ps) ≡ n = length-append qs ([] ∷ x ∷ ps) ∙ omega arith in
      let one = continues qs [] record { few = omega arith; small = sum } long in
      record { row = λ qs q f e. (continues qs q f e).stands; quiet = one.gives; sized = one.sized }
    where
      bound : sum_of (map length (x ∷ ps)) ≤ bundle_max → 0 + sum_of (map length ([] ∷ x ∷ ps)) ≤ bundle_max
      bound h = omega arith

  -- the last one, of index 0: the bundle is the pieces joined in falling order of index
  pub falls-to-end : suc (length ps) ≡ n → n ≤ 64 → sum_of (map length (x ∷ ps)) ≤ bundle_max → Ended (join Falling (x ∷ ps)) after
  unfolding settled newly bundle_if
  falls-to-end e few small =
      let s = comes [] record { few = omega arith; small = small } e in
      let all : has_all n (down n (suc (length ps))) ≡ true = has_all_lem n (down n (suc (length ps))) (λ j l. held n (suc (length ps)) j l (omega arith)) in
      let t = rw all at s in
      record { gives = t.gives; sized = t.sized }
