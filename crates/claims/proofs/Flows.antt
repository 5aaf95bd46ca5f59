-- The messages that a sender has written and the bundles that they carry, for the entries of its state.
use mathlib.Core.Path.{◌≡◌, refl, sym}
use mathlib.Core.Bool.{Bool, true, false, cond, not, false≢true}
use mathlib.Core.Option.{none, some}
use mathlib.Core.List.{List, [], ◌∷◌, ◌++◌}
use Prim.Native.Nat.{ℕ, ◌+◌, ◌%◌, ◌^◌, ◌<◌}
use native.Mathlib.Omega.{arith}
use Rattle.std.proofs.Common.{None, Some}
use Rattle.wire.specs.Message.{Message, skipped, bundle, cancel as cancelled}
use Rattle.writing.specs.Written.{piece}
use Rattle.pieces.specs.declared.Order.{Order}
use Rattle.row.specs.declared.Row.{Row}
use Rattle.rows.specs.Message.{Handed}
use Rattle.claims.proofs.Carries.{Begun, update-elim, update_same, Opening, Continuing, Ending, Carries, pads, hands, opens, continues, ends, stops}

-- Of a transfer begun something of a type S is known: In says what its row holds, and At where its sender stands, by the octets placed, the
-- next index and the bundle lent.
module _ {S : Type 0} (In : S → Row → List ℕ → Type 0) (At : ℕ → ℕ → List ℕ → S → Type 0) (order : Order) (w n : ℕ) where
  -- The messages ms carry the bundles bs, for a state with next number k, number t, p octets placed and next index i, where b is the bundle
  -- lent; and whether a transfer is begun.
  pub data Flow (k t p i : ℕ) (b : List ℕ) (ms : List Message) (bs : List Handed) : Bool → Type 0 where
    idle : {σ : Begun S} → k < 2 ^ 32 → Carries In order w n k σ ms bs → ((u : ℕ) → σ u ≡ none) → Flow k t p i b ms bs false
    going : {σ : Begun S} (q : S) → k < 2 ^ 32 → t < 2 ^ 32 → Carries In order w n k σ ms bs → σ t ≡ some q → ((u : ℕ) → (u ≡ t → ⊥) → σ u ≡ none)
        → At p i b q → Flow k t p i b ms bs true

module _ {S : Type 0} {In : S → Row → List ℕ → Type 0} {At : ℕ → ℕ → List ℕ → S → Type 0} {order : Order} {w n k t p i : ℕ} {a : List ℕ} {ms : List Message} {bs : List Handed} where
  -- while a transfer is begun the same octets are lent
  pub lent-flow : {begun : Bool} (b : List ℕ) → (begun ≡ true → a ≡ b) → Flow In At order w n k t p i b ms bs begun → Flow In At order w n k t p i a ms bs begun
  lent-flow b h (idle k< c z) = idle k< c z
  lent-flow b h (going q k< t< c e o l) = rw (h refl) (going q k< t< c e o l)

  pub number_small : {begun : Bool} → Flow In At order w n k t p i a ms bs begun → cond begun t k < 2 ^ 32
  number_small (idle k< c z) = k<
  number_small (going q k< t< c e o l) = t<

  pub begun-small : {begun : Bool} → begun ≡ true → Flow In At order w n k t p i a ms bs begun → t < 2 ^ 32
  begun-small f (idle k< c z) = absurd (false≢true f)
  begun-small f (going q k< t< c e o l) = t<

  pub padding-flow : {begun : Bool} → Flow In At order w n k t p i a ms bs begun → Flow In At order w n k t p i a (ms ++ skipped ∷ []) bs begun
  padding-flow (idle k< c z) = idle k< (pads c) z
  padding-flow (going q k< t< c e o l) = going q k< t< (pads c) e o l

  pub bundle-flow : {begun : Bool} → begun ≡ false → Flow In At order w n k t p i a ms bs begun
      → Flow In At order w n k t p i a (ms ++ bundle a ∷ []) (bs ++ cond (not begun) (record { origin = cond begun (Some t) None; octets = a } ∷ []) []) begun
  bundle-flow f (idle k< c z) = idle k< (hands a c) z
  bundle-flow f (going q k< t< c e o l) = absurd (false≢true (sym f))

  pub cancel-flow : {begun : Bool} → begun ≡ true → Flow In At order w n k t p i a ms bs begun → Flow In At order w n k 0 0 0 a (ms ++ cancelled t ∷ []) bs false
  cancel-flow f (idle k< c z) = absurd (false≢true f)
  cancel-flow f (going {σ = σ} q k< t< c e o l) = idle k< (stops t q e c) (update-elim (λ u v. v ≡ none) σ t none refl o)

  -- A piece of index j with the octets x, marked or not: the last one, and one behind which others come, where p' octets are placed and the
  -- next index is i'.
  module _ (marked : Bool) (j : ℕ) (x : List ℕ) where
    pub end-flow : {begun : Bool} → begun ≡ true → ((q : S) → At p i a q → Ending In order marked j x q a) → Flow In At order w n k t p i a ms bs begun
        → Flow In At order w n (cond begun k ((k + 1) % 2 ^ 32)) 0 0 0 a (ms ++ piece marked (cond begun t k) j x ∷ []) (bs ++ record { origin = cond begun (Some t) None; octets = a } ∷ []) false
    end-flow f h (idle k< c z) = absurd (false≢true f)
    end-flow f h (going {σ = σ} q k< t< c e o l) = idle k< (ends t q marked j x a e (h q l) c) (update-elim (λ u v. v ≡ none) σ t none refl o)

    pub piece-flow : {begun : Bool} (p' i' : ℕ) → (begun ≡ false → (q : S) × Opening In order marked j x q × At p' i' a q)
        → (begun ≡ true → (q : S) → At p i a q → (q' : S) × Continuing In order marked j x q q' × At p' i' a q') → Flow In At order w n k t p i a ms bs begun
        → Flow In At order w n (cond begun k ((k + 1) % 2 ^ 32)) (cond begun t k) p' i' a (ms ++ piece marked (cond begun t k) j x ∷ []) bs true
    piece-flow p' i' f g (idle {σ = σ} k< c z) =
        let (q, h, l) = f refl in
        let k'< : (k + 1) % 2 ^ 32 < 2 ^ 32 = omega arith in
        going q k'< k< (opens {σ = σ} marked j x q h (λ t p e. absurd (let y : ◌≡◌ {A = ℕ} 0 1 = cc (z t) in omega arith)) c)
        (update_same σ k (some q)) (update-elim (λ u v. (u ≡ k → ⊥) → v ≡ none) σ k (some q) (λ ne. absurd (ne refl)) (λ v ne _. z v)) l
    piece-flow p' i' f g (going {σ = σ} q k< t< c e o l) =
        let (q', h, l') = g refl q l in
        going q' k< t< (continues t q marked j x q' e h c) (update_same σ t (some q'))
        (update-elim (λ u v. (u ≡ t → ⊥) → v ≡ none) σ t (some q') (λ ne. absurd (ne refl)) (λ v ne _. o v ne)) l'
