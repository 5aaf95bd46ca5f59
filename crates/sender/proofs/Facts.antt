-- What a sound state says, as facts of numbers.
--     in-range, in-transfer, at_rest     of a sound state
--     lies_within     of the next piece of a bundle of n octets, whether a transfer is begun or not
--     sound-of        the other way round
use mathlib.Core.Path.{◌≡◌, refl, sym, ◌∙◌}
use mathlib.Core.Bool.{Bool, true, false, not, cond, ◌&&◌, false≢true}
use Prim.Native.Nat.{ℕ, ◌+◌, ◌-◌, ◌≤◌, ◌<◌}
use native.Mathlib.Omega.{arith}
use lib.Dec.{eqb}
use borrow.Author.Tests.{leb-true, ltb-true, eqb-true, not-false, le-leb, lt-ltb, eq-eqb}
use Rattle.octets.proofs.Flags.{both}
use Rattle.wire.specs.declared.Version.{Version}
use Rattle.wire.specs.declared.Version.TheVariants.{Draft00, Draft02}
use Rattle.framing.specs.declared.State.{State}
use Rattle.framing.specs.Placing.{bundle_max}
use Rattle.sender.specs.Sound.{ranges, cleared, under_way, pieces_left, indexed_in, indexed, sound}
use Rattle.sender.proofs.Reckoned.{some_left, few_pieces}

pub record Ranges (s : State) : Type 0 where
  pub low : 128 ≤ s.size
  pub high : s.size ≤ 2048
  pub filled : s.fill < s.size

pub record UnderWay (s : State) : Type 0 where
  pub empty : s.fill ≡ 0
  pub long : s.size - 4 < s.length
  pub fits : s.length ≤ bundle_max
  pub some : 1 ≤ s.placed
  pub more : s.placed < s.length

-- the next index, by the draft
pub data Indexed (s : State) : Version → Type 0 where
  falls : s.index ≡ pieces_left s - 1 → Indexed s Draft00
  rises : 1 ≤ s.index → s.index + pieces_left s ≤ 64 → Indexed s Draft02

pub record Begun (s : State) : Type 0 where
  pub counted : UnderWay s
  pub indexes : Indexed s s.version

pub record Cleared (s : State) : Type 0 where
  pub number0 : s.number ≡ 0
  pub length0 : s.length ≡ 0
  pub placed0 : s.placed ≡ 0
  pub index0 : s.index ≡ 0

pub ranges_facts : (s : State) → ranges s ≡ true → Ranges s
ranges_facts s e₂ =
    let (e₁, h₂) = both _ _ e₂ in
    let (h₀, h₁) = both _ _ e₁ in
    record { low = leb-true _ _ h₀; high = leb-true _ _ h₁; filled = ltb-true _ _ h₂ }

pub under-way_facts : (s : State) → under_way s ≡ true → UnderWay s
under-way_facts s e₄ =
    let (e₃, h₄) = both _ _ e₄ in
    let (e₂, h₃) = both _ _ e₃ in
    let (e₁, h₂) = both _ _ e₂ in
    let (h₀, h₁) = both _ _ e₁ in
    record { empty = eqb-true _ _ h₀; long = ltb-true _ _ h₁; fits = leb-true _ _ h₂; some = leb-true _ _ h₃; more = ltb-true _ _ h₄ }

indexed_facts : (v : Version) (s : State) → indexed_in v s ≡ true → Indexed s v
indexed_facts Draft00 s e = falls (eqb-true _ _ e)
indexed_facts Draft02 s e = let (h₀, h₁) = both _ _ e in rises (leb-true _ _ h₀) (leb-true _ _ h₁)

-- the next index of a transfer begun is at most that of a start
pub index-few : {v : Version} {s : State} → Indexed s v → Ranges s → UnderWay s → s.index ≤ 63
index-few {s = s} (falls e) r u = let m = few_pieces (s.length - s.placed) (s.size - 12) (omega arith) (omega arith) in omega arith
index-few {s = s} (rises l h) r u = let m = some_left (s.length - s.placed) (s.size - 12) (omega arith) (omega arith) in omega arith

cleared_facts : (s : State) → cleared s ≡ true → Cleared s
cleared_facts s e₃ =
    let (e₂, h₃) = both _ _ e₃ in
    let (e₁, h₂) = both _ _ e₂ in
    let (h₀, h₁) = both _ _ e₁ in
    record { number0 = eqb-true _ _ h₀; length0 = eqb-true _ _ h₁; placed0 = eqb-true _ _ h₂; index0 = eqb-true _ _ h₃ }

-- refusal 12 does not apply
pub same_length : (b : Bool) (n l : ℕ) → (b && not (eqb n l)) ≡ false → b ≡ true → n ≡ l
same_length true n l o e = eqb-true _ _ (not-false _ o)
same_length false n l o e = absurd (false≢true e)

-- the tests of a sound state, each as it was answered
pub sound-by : (s : State) (a b k : Bool) → a ≡ ranges s → b ≡ s.begun → k ≡ under_way s → (a && cond b (k && indexed s) (cleared s)) ≡ sound s
unfolding sound
sound-by s a b k e f g = rw (e, f, g)

module _ (s : State) (e : sound s ≡ true) where
  parts : (b : Bool) → b ≡ s.begun → (ranges s ≡ true) × (cond b (under_way s && indexed s) (cleared s) ≡ true)
  parts b f = both (ranges s) _ (sound-by s (ranges s) b (under_way s) refl f refl ∙ e)

  pub in-range : Ranges s
  in-range = ranges_facts s (parts s.begun refl).0

  pub in-transfer : s.begun ≡ true → Begun s
  in-transfer b =
      let (k, l) = both (under_way s) (indexed s) (parts true (sym b)).1 in
      record { counted = under-way_facts s k; indexes = indexed_facts s.version s l }

  pub at_rest : s.begun ≡ false → Cleared s
  at_rest b = cleared_facts s (parts false (sym b)).1

  within : (b : Bool) → s.begun ≡ b → (n : ℕ) → 1 ≤ n → (s.begun ≡ true → n ≡ s.length) → (s.placed < n) × (s.index ≤ 64)
  within true b n k o =
      let f = in-transfer b in
      let l = o b in
      let i = index-few f.indexes in-range f.counted in
      (omega arith, omega arith)
  within false b n k o = let f = at_rest b in (omega arith, omega arith)

  pub lies_within : (n : ℕ) → 1 ≤ n → (s.begun && not (eqb n s.length)) ≡ false → (s.placed < n) × (s.index ≤ 64)
  lies_within n k o = within s.begun refl n k (same_length s.begun n s.length o)

module _ (s : State) (r : Ranges s) where
  is_ranged : ranges s ≡ true
  is_ranged = rw (le-leb _ _ r.low, le-leb _ _ r.high, lt-ltb _ _ r.filled)

  is-indexed : {v : Version} → Indexed s v → indexed_in v s ≡ true
  is-indexed (falls e) = eq-eqb _ _ e
  is-indexed (rises l h) = rw (le-leb _ _ l, le-leb _ _ h)

  is-begun : Begun s → (under_way s && indexed s) ≡ true
  is-begun f =
      let k = f.counted in
      rw (eq-eqb _ _ k.empty, lt-ltb _ _ k.long, le-leb _ _ k.fits, le-leb _ _ k.some, lt-ltb _ _ k.more, is-indexed f.indexes)

  is-cleared : Cleared s → cleared s ≡ true
  is-cleared k = rw (eq-eqb _ _ k.number0, eq-eqb _ _ k.length0, eq-eqb _ _ k.placed0, eq-eqb _ _ k.index0)

  by-begun : (b : Bool) → b ≡ s.begun → (s.begun ≡ true → Begun s) → (s.begun ≡ false → Cleared s) → sound s ≡ true
  by-begun true e f g = sym (sound-by s true true (under_way s) (sym is_ranged) e refl) ∙ is-begun (f (sym e))
  by-begun false e f g = sym (sound-by s true false (under_way s) (sym is_ranged) e refl) ∙ is-cleared (g (sym e))

  pub sound-of : (s.begun ≡ true → Begun s) → (s.begun ≡ false → Cleared s) → sound s ≡ true
  sound-of f g = by-begun s.begun refl f g
