-- The ways through a call: what holds of a refusal, and of what is done where none applies, holds of the call's outcome.
--     Passed, Positive     none of the cases applies; their numbers are not 0
--     place-passes, cancel-passes, flush-passes, unless-passed, unless-given     from the number of the first case that applies
--     common-passed, common-given     the first two cases, which all calls share
use mathlib.Core.Path.{◌≡◌, refl}
use mathlib.Core.Bool.{true, false}
use mathlib.Core.List.{List, [], ◌∷◌}
use Prim.Native.Nat.{ℕ, ◌<◌}
use native.Mathlib.Omega.{arith}
use Rattle.framing.specs.declared.State.{State}
use Rattle.framing.specs.declared.Refusal.{Refusal}
use Rattle.framing.specs.declared.Refusal.TheVariants.{Unsound, WrongBuffer, BundleSize, OtherLength, NoTransfer, FrameSize}
use Rattle.framing.specs.Answers.{refused, refusal_number, Outcome}
use Rattle.sender.specs.Answers.{Case, refusal, unless, first_of}
use Rattle.sender.specs.Calls.{common, place_cases, cancel_cases, flush_cases}

-- none of the cases applies
unfoldable pub Passed : List Case → Type 0
Passed [] = ◌≡◌ {A = ℕ} 0 0
Passed (refusal n applies ∷ cs) = (applies ≡ false) × Passed cs

abbrev pub Positive : List Case → Type 0
Positive [] = Unit {0}
Positive (refusal n applies ∷ cs) = (0 < n) × Positive cs

pub some_number : (r : Refusal) → 0 < refusal_number r
some_number Unsound = omega arith
some_number WrongBuffer = omega arith
some_number BundleSize = omega arith
some_number OtherLength = omega arith
some_number NoTransfer = omega arith
some_number FrameSize = omega arith

passes : (cs : List Case) → Positive cs → 0 ≡ first_of cs → Passed cs
unfolding Passed first_of
passes [] p e = refl
passes (refusal n true ∷ cs) p e = absurd (omega (arith, p.0))
passes (refusal n false ∷ cs) p e = (refl, passes cs p.1 e)

pub place-passes : (s : State) (b d : List ℕ) → 0 ≡ first_of (place_cases s b d) → Passed (place_cases s b d)
unfolding place_cases
place-passes s b d = passes (place_cases s b d) (omega arith, (omega arith, (omega arith, (omega arith, tt))))

pub cancel-passes : (s : State) (d : List ℕ) → 0 ≡ first_of (cancel_cases s d) → Passed (cancel_cases s d)
unfolding cancel_cases
cancel-passes s d = passes (cancel_cases s d) (omega arith, (omega arith, (omega arith, tt)))

pub flush-passes : (s : State) (d : List ℕ) → 0 ≡ first_of (common s d []) → Passed (flush_cases s d)
unfolding flush_cases
flush-passes s d = passes (flush_cases s d) (omega arith, (omega arith, tt))

module _ (P : Outcome → Type 0) (s : State) (d : List ℕ) where
  pub unless-ways : (cs : List Case) (o : Outcome) → ((n : ℕ) → P (record { answer = refused n; state = s; frame = d })) → (Passed cs → P o)
      → P (unless cs s d o)
  unfolding unless Passed
  unless-ways [] o r k = k refl
  unless-ways (refusal n true ∷ cs) o r k = r n
  unless-ways (refusal n false ∷ cs) o r k = unless-ways cs o r (λ p. k (refl, p))

module _ (s : State) (d : List ℕ) (o : Outcome) where
  pub unless-passed : (cs : List Case) → Passed cs → o ≡ unless cs s d o
  unfolding unless Passed
  unless-passed [] p = refl
  unless-passed (refusal n true ∷ cs) p = absurd (let e = p.0 in let z : ◌≡◌ {A = ℕ} 0 1 = cc in omega arith)
  unless-passed (refusal n false ∷ cs) p = unless-passed cs p.1

  pub unless-given : (cs : List Case) (n : ℕ) → 0 < n → n ≡ first_of cs → record { answer = refused n; state = s; frame = d } ≡ unless cs s d o
  unfolding unless first_of
  unless-given [] n h e = absurd (omega arith)
  unless-given (refusal k true ∷ cs) n h e = rw e
  unless-given (refusal k false ∷ cs) n h e = unless-given cs n h e

longer-given : (cs : List Case) (n : ℕ) → 0 < n → (x y : Case) → n ≡ first_of (x ∷ y ∷ []) → n ≡ first_of (x ∷ y ∷ cs)
unfolding first_of
longer-given cs n h (refusal i true) y e = e
longer-given cs n h (refusal i false) (refusal j true) e = e
longer-given cs n h (refusal i false) (refusal j false) e = absurd (omega arith)

module _ (s : State) (d : List ℕ) (cs : List Case) where
  pub common-passed : ◌≡◌ {A = ℕ} 0 (first_of (common s d [])) → first_of cs ≡ first_of (common s d cs)
  unfolding first_of Passed
  common-passed e = let p = passes (common s d []) (omega arith, (omega arith, tt)) e in rw (p.0, p.1.0)

  pub common-given : (n : ℕ) → 0 < n → n ≡ first_of (common s d []) → n ≡ first_of (common s d cs)
  common-given n h = longer-given cs n h _ _
