-- Rows of messages that carry bundles, with several transfers begun at a time. In what order the pieces of a transfer come is left open: of a
-- transfer begun something of a type S is known, and In says what its row then holds.
use mathlib.Core.Path.{◌≡◌, refl}
use mathlib.Core.Bool.{Bool, true, false, cond}
use mathlib.Core.Logic.{◌⊎◌, inl, inr}
use mathlib.Core.Option.{Option, none, some}
use mathlib.Core.List.{List, [], ◌∷◌, ◌++◌}
use Prim.Native.Nat.{ℕ, ◌+◌, ◌%◌, ◌^◌, ◌<◌}
use lib.ListN.{length}
use lib.Dec.{eqb}
use borrow.Author.Tests.{eqb-true, eqb-false}
use Rattle.std.proofs.Common.{None, Some}
use Rattle.octets.proofs.Flags.{bool}
use Rattle.wire.specs.Message.{Message, skipped, bundle, cancel}
use Rattle.window.specs.Window.{distance}
use Rattle.pieces.specs.declared.Order.{Order}
use Rattle.pieces.specs.Pieces.{bundle_max}
use Rattle.writing.specs.Written.{piece}
use Rattle.pieces.specs.Pieces.{bundle_max}
use Rattle.row.specs.declared.Row.{Row}
use Rattle.row.specs.declared.Phase.TheVariants.{Free}
use Rattle.row.specs.Row.{empty_row}
use Rattle.reassembly.specs.Rules.{Outcome, piece_step}
use Rattle.rows.specs.Message.{Handed}

-- for each number that is begun, what is known of it
abbrev pub Begun : Type 0 → Type 0
Begun S = ℕ → Option S

module _ {S : Type 0} where
  unfoldable pub update : Begun S → ℕ → Option S → Begun S
  update σ t v u = cond (eqb u t) v (σ u)

  -- what holds of v at t, and elsewhere of what stood there
  pub update-elim : (P : ℕ → Option S → Type 0) (σ : Begun S) (t : ℕ) (v : Option S) → P t v → ((u : ℕ) → (u ≡ t → ⊥) → P u (σ u)) → (u : ℕ)
      → P u (update σ t v u)
  unfolding update
  update-elim P σ t v here there u = go (bool (eqb u t))
    where
      go : (eqb u t ≡ true) ⊎ (eqb u t ≡ false) → P u (cond (eqb u t) v (σ u))
      go (inl e) = rw (e, eqb-true u t e) here
      go (inr e) = rw e (there u (eqb-false u t e))

  pub update_same : (σ : Begun S) (t : ℕ) (v : Option S) → update σ t v t ≡ v
  update_same σ t v = update-elim (λ u y. u ≡ t → y ≡ v) σ t v (λ _. refl) (λ u ne e. absurd (ne e)) t refl

-- ---- what a piece does to its row

-- the row goes on, and nothing is handed out
pub record Continued (Holds : Row → List ℕ → Type 0) (o : Outcome) : Type 0 where
  pub row : Holds o.row o.cell
  pub quiet : o.bundle ≡ none
  pub sized : length o.cell ≡ bundle_max

-- the row hands out these octets
pub record Ended (octets : List ℕ) (o : Outcome) : Type 0 where
  pub gives : o.bundle ≡ some octets
  pub sized : length o.cell ≡ bundle_max

-- A piece of index i with the octets x, marked as an end or start or not.
module _ {S : Type 0} (In : S → Row → List ℕ → Type 0) (order : Order) (marked : Bool) (i : ℕ) (x : List ℕ) where
  abbrev pub Opening : S → Type 0
  Opening q = (cell : List ℕ) → length cell ≡ bundle_max → Continued (In q) (piece_step order marked i x (empty_row Free) cell)

  abbrev pub Continuing : S → S → Type 0
  Continuing q q' = (r : Row) (cell : List ℕ) → In q r cell → length cell ≡ bundle_max → Continued (In q') (piece_step order marked i x r cell)

  abbrev pub Ending : S → List ℕ → Type 0
  Ending q octets = (r : Row) (cell : List ℕ) → In q r cell → length cell ≡ bundle_max → Ended octets (piece_step order marked i x r cell)

-- The next number and what is begun after a row of messages, and the bundles that the row carries, in order of their ends.
pub data Carries {S : Type 0} (In : S → Row → List ℕ → Type 0) (order : Order) (w first : ℕ) : ℕ → Begun S → List Message → List Handed → Type 0 where
  -- no message
  begin : Carries In order w first first (λ t. none) [] []
  -- padding
  pads : {k : ℕ} {σ : Begun S} {ms : List Message} {bs : List Handed} → Carries In order w first k σ ms bs → Carries In order w first k σ (ms ++ skipped ∷ []) bs
  -- a bundle message
  hands : {k : ℕ} {σ : Begun S} {ms : List Message} {bs : List Handed} (b : List ℕ) → Carries In order w first k σ ms bs
      → Carries In order w first k σ (ms ++ bundle b ∷ []) (bs ++ record { origin = None; octets = b } ∷ [])
  -- a first piece, of the next number, while all that is begun is less than w behind it
  opens : {k : ℕ} {σ : Begun S} {ms : List Message} {bs : List Handed} (marked : Bool) (i : ℕ) (x : List ℕ) (q : S) → Opening In order marked i x q
      → ((t : ℕ) (p : S) → σ t ≡ some p → distance t k < w) → Carries In order w first k σ ms bs
      → Carries In order w first ((k + 1) % 2 ^ 32) (update σ k (some q)) (ms ++ piece marked k i x ∷ []) bs
  -- a further piece, behind which others come
  continues : {k : ℕ} {σ : Begun S} {ms : List Message} {bs : List Handed} (t : ℕ) (p : S) (marked : Bool) (i : ℕ) (x : List ℕ) (q : S) → σ t ≡ some p
      → Continuing In order marked i x p q → Carries In order w first k σ ms bs
      → Carries In order w first k (update σ t (some q)) (ms ++ piece marked t i x ∷ []) bs
  -- the last piece
  ends : {k : ℕ} {σ : Begun S} {ms : List Message} {bs : List Handed} (t : ℕ) (p : S) (marked : Bool) (i : ℕ) (x octets : List ℕ) → σ t ≡ some p
      → Ending In order marked i x p octets → Carries In order w first k σ ms bs
      → Carries In order w first k (update σ t none) (ms ++ piece marked t i x ∷ []) (bs ++ record { origin = Some t; octets = octets } ∷ [])
  -- a cancel
  stops : {k : ℕ} {σ : Begun S} {ms : List Message} {bs : List Handed} (t : ℕ) (p : S) → σ t ≡ some p → Carries In order w first k σ ms bs
      → Carries In order w first k (update σ t none) (ms ++ cancel t ∷ []) bs
