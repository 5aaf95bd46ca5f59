-- The row of a number whose pieces come in order of their indexes, from 0.
use mathlib.Core.Path.{◌≡◌, refl, ◌∙◌}
use mathlib.Core.Bool.{Bool, true, false, ◌||◌, or-true}
use mathlib.Core.Logic.{◌⊎◌, inl, inr}
use mathlib.Core.List.{List, [], ◌∷◌, ◌++◌, map, append_assoc, map-append}
use Prim.Native.Nat.{ℕ, zero, suc, ◌+◌, ◌≤◌, ◌<◌}
use native.Mathlib.Omega.{arith}
use lib.ListN.{length, length-append}
use lib.Seq.{get_or-append_seam}
use lib.Dec.{eqb}
use borrow.Author.Tests.{eqb-false, eq-eqb, ne_eqb}
use Rattle.octets.proofs.Flags.{bool}
use Rattle.row.specs.declared.Row.{Row}
use Rattle.row.specs.declared.Phase.TheVariants.{Free}
use Rattle.octets.specs.Octets.{sum_of}
use Rattle.pieces.specs.declared.Order.TheVariants.{Rising}
use Rattle.pieces.specs.Pieces.{bundle_max, has, has_all}
use Rattle.row.specs.Row.{empty_row}
use Rattle.reassembly.specs.Rules.{Outcome, piece_step}
use Rattle.pieces.proofs.Lists.{all_lacks}
use Rattle.claims.specs.Record.{is_last}
use Rattle.claims.specs.Demand3.{join}
use Rattle.claims.proofs.Held.{has-snoc, has_all_lem}
use Rattle.claims.proofs.Track.{live, settled, add, newly}
use Rattle.claims.proofs.Carries.{Continued, Ended}
use Rattle.claims.proofs.Pieces.{sum-append, Holds, Represents, Stepped, bundle_if, holds-none, piece-step}

-- ---- the indexes below n, in order

unfoldable up_to : ℕ → List ℕ
up_to zero = []
up_to (suc n) = up_to n ++ n ∷ []

new : (n j : ℕ) → n ≤ j → has j (up_to n) ≡ false
unfolding up_to has
new zero j h = refl
new (suc n) j h = has-snoc j n (up_to n) ∙ rw (new n j (omega arith), ne_eqb n j (omega arith))

held : (n j : ℕ) → j < n → has j (up_to n) ≡ true
unfolding up_to
held zero j h = absurd (omega arith)
held (suc n) j h = has-snoc j n (up_to n) ∙ go (held n j) (bool (eqb n j))
  where
    go : (j < n → has j (up_to n) ≡ true) → (eqb n j ≡ true) ⊎ (eqb n j ≡ false) → (has j (up_to n) || eqb n j) ≡ true
    go ih (inl e) = rw e (or-true (has j (up_to n)))
    go ih (inr e) = let ne = eqb-false n j e in rw (ih (omega arith))

-- ---- a row and the pieces so far

-- pieces that a row may hold
pub record Fits (ps : List (List ℕ)) : Type 0 where
  pub few : length ps ≤ 64
  pub small : sum_of (map length ps) ≤ bundle_max

-- The row holds ps, whatever pieces q and qs are to come.
pub InOrder : List (List ℕ) → Row → List ℕ → Type 0
InOrder ps r cell = (q : List ℕ) (qs : List (List ℕ)) → Fits (ps ++ q ∷ qs) → Holds (ps ++ q ∷ qs) r cell (up_to (length ps))

pub in_order_none : (cell : List ℕ) → length cell ≡ bundle_max → InOrder [] (empty_row Free) cell
unfolding InOrder up_to
in_order_none cell l q qs f = holds-none (q ∷ qs) cell l

module _ (ps : List (List ℕ)) (x : List ℕ) (r : Row) (cell : List ℕ) (h : InOrder ps r cell) (full : length cell ≡ bundle_max) where
  abbrev i : ℕ
  i = length ps

  size : (qs : List (List ℕ)) → length (ps ++ x ∷ qs) ≡ suc (i + length qs)
  size qs = length-append ps (x ∷ qs) ∙ omega arith

  -- piece x comes, and qs are to follow
  comes : (qs : List (List ℕ)) → Fits (ps ++ x ∷ qs)
      → Stepped (ps ++ x ∷ qs) Rising (piece_step Rising (is_last (ps ++ x ∷ qs) i) i x r cell) (live (up_to i)) (settled (length (ps ++ x ∷ qs)) (up_to (suc i)))
  unfolding InOrder Represents add up_to
  comes qs f =
      rw (get_or-append_seam ps x qs [], new i i (omega arith)) at
      (piece-step (ps ++ x ∷ qs) Rising f.few f.small i r cell (live (up_to i)) (h x qs f) full (omega (arith, size qs)))

  abbrev after : Bool → Outcome
  after ending = piece_step Rising ending i x r cell

  continues : (q : List ℕ) (qs : List (List ℕ)) → Fits (ps ++ x ∷ q ∷ qs) → Stepped (ps ++ x ∷ q ∷ qs) Rising (after false) (live (up_to i)) (live (up_to (suc i)))
  unfolding settled
  continues q qs f =
      let n = size (q ∷ qs) in
      rw (ne_eqb (i + 1) (length (ps ++ x ∷ q ∷ qs)) (omega arith), all_lacks (length (ps ++ x ∷ q ∷ qs)) (suc i) (up_to (suc i)) (omega arith) (new (suc i) (suc i) (omega arith))) at (comes (q ∷ qs) f)

  pub continued : length ps < 63 → sum_of (map length (ps ++ x ∷ [])) ≤ bundle_max → Continued (InOrder (ps ++ x ∷ [])) (after false)
  unfolding InOrder Represents newly bundle_if sum_of
  continued few small =
      let one = continues [] [] record { few = omega (arith, size ([] ∷ [])); small = rw (map-append length ps (x ∷ [] ∷ []), sum-append) (rw (map-append length ps (x ∷ []), sum-append) at small) } in
      let n : length (ps ++ x ∷ []) ≡ suc i = size [] ∙ omega arith in
      record {
        row = λ q qs f. rw (n, append_assoc ps (x ∷ []) (q ∷ qs)) (continues q qs (rw (append_assoc ps (x ∷ []) (q ∷ qs)) at f)).stands;
        quiet = one.gives;
        sized = one.sized;
      }

  pub ended : length ps ≤ 63 → sum_of (map length (ps ++ x ∷ [])) ≤ bundle_max → Ended (join Rising (ps ++ x ∷ [])) (after true)
  unfolding settled newly bundle_if
  ended few small =
      let n = size [] in
      let s = comes [] record { few = omega arith; small = small } in
      let all : has_all (length (ps ++ x ∷ [])) (up_to (suc i)) ≡ true = has_all_lem (length (ps ++ x ∷ [])) (up_to (suc i)) (λ j l. held (suc i) j (omega arith)) in
      let t = rw (eq-eqb (i + 1) (length (ps ++ x ∷ [])) (omega arith), all) at s in
      record { gives = t.gives; sized = t.sized }
