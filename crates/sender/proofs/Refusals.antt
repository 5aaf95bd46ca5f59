-- The refusals of the sending calls (document 01, "Numbers of refusal").
--     place-first, cancel-first, flush-first, start_first     a call's number of refusal is that of the first case that applies
--     place-refused, cancel-refused, flush-refused     a refused call gives back state and frame as they were
--     place-some, cancel-some, flush-some     a refusal's number is not 0
--     place_numbers, cancel_numbers, flush_numbers     the cases stand in the paper's order
use mathlib.Core.Path.{◌≡◌, refl, sym, ap, ◌∙◌}
use mathlib.Core.Bool.{true, false, cond, false≢true}
use mathlib.Core.List.{List, [], ◌∷◌}
use Prim.Native.Nat.{ℕ, ◌+◌, ◌<◌}
use native.Mathlib.Omega.{arith}
use lib.ListN.{length}
use lib.Dec.{eqb}
use Rattle.octets.proofs.Flags.{cond_elim}
use Rattle.wire.specs.declared.Version.{Version}
use Rattle.wire.specs.Message.{Message, cancel as cancelling}
use Rattle.writing.specs.Written.{written}
use Rattle.framing.specs.declared.State.{State}
use Rattle.framing.specs.Answers.{Reply, placed, placed_and_ready, ready, nothing, refused, Outcome}
use Rattle.framing.specs.Placing.{ended, advanced, added, closed, placing}
use Rattle.framing.proofs.Ways.{placing-ways}
use Rattle.sender.specs.Answers.{Case, refusal, unless, first_of, is_refusal, reply_number, StartReply, start_number}
use Rattle.sender.specs.Sound.{sized}
use Rattle.sender.specs.Calls.{place_cases, place, cancel_cases, cancel, flush_cases, flush, start}
use Rattle.sender.proofs.Ways.{Positive}

abbrev Carried : Outcome → Type 0
Carried o = is_refusal o.answer ≡ false

carried_added : (s : State) (m : Message) (d : List ℕ) → Carried (added s m d)
unfolding added advanced is_refusal
carried_added s m d = cond_elim (λ (r : Reply). is_refusal r ≡ false) (eqb (s.fill + length (written s.version m)) s.size) (λ _. refl) λ _. refl

carried_closed : (s : State) (d : List ℕ) → Carried (closed s d)
unfolding closed is_refusal
carried_closed s d = refl

carried_placing : (s : State) (b d : List ℕ) → Carried (placing s b d)
carried_placing s b d = placing-ways Carried s d b (λ _ _. carried_added s _ d) (carried_closed s d) (λ _ _ _. carried_added _ _ d) (λ _ _ _. carried_added _ _ d)

carried_flush : (s : State) (d : List ℕ) → Carried (cond (eqb s.fill 0) (record { answer = nothing; state = s; frame = d }) (closed s d))
unfolding is_refusal
carried_flush s d = cond_elim Carried (eqb s.fill 0) (λ _. refl) λ _. carried_closed s d

no_number : (r : Reply) → is_refusal r ≡ false → reply_number r ≡ 0
unfolding is_refusal reply_number
no_number placed g = refl
no_number placed_and_ready g = refl
no_number ready g = refl
no_number nothing g = refl
no_number (refused n) g = absurd (false≢true (sym g))

module _ (s : State) (d : List ℕ) (o : Outcome) (g : Carried o) where
  unless-first : (cs : List Case) → reply_number (unless cs s d o).answer ≡ first_of cs
  unfolding unless first_of reply_number
  unless-first [] = no_number _ g
  unless-first (refusal n true ∷ cs) = refl
  unless-first (refusal n false ∷ cs) = unless-first cs

  unless-refused : (cs : List Case) → is_refusal (unless cs s d o).answer ≡ true → ((unless cs s d o).state ≡ s) × ((unless cs s d o).frame ≡ d)
  unfolding unless
  unless-refused [] e = absurd (false≢true (sym g ∙ e))
  unless-refused (refusal n true ∷ cs) e = (refl, refl)
  unless-refused (refusal n false ∷ cs) e = unless-refused cs e

  unless-some : (cs : List Case) → Positive cs → (n : ℕ) → (unless cs s d o).answer ≡ refused n → 0 < n
  unfolding unless is_refusal
  unless-some [] p n e = absurd (false≢true (sym g ∙ ap is_refusal e))
  unless-some (refusal k true ∷ cs) p n e = let same : k ≡ n = cc in omega (arith, p.0)
  unless-some (refusal k false ∷ cs) p n e = unless-some cs p.1 n e

module _ (s : State) (b d : List ℕ) where
  pub place-first : reply_number (place s b d).answer ≡ first_of (place_cases s b d)
  unfolding place
  place-first = unless-first s d _ (carried_placing s b d) (place_cases s b d)

  pub place-refused : is_refusal (place s b d).answer ≡ true → ((place s b d).state ≡ s) × ((place s b d).frame ≡ d)
  unfolding place
  place-refused = unless-refused s d _ (carried_placing s b d) (place_cases s b d)

  pub place-some : (n : ℕ) → (place s b d).answer ≡ refused n → 0 < n
  unfolding place place_cases
  place-some n = unless-some s d _ (carried_placing s b d) (place_cases s b d) (omega arith, (omega arith, (omega arith, (omega arith, tt)))) n

module _ (s : State) (d : List ℕ) where
  pub cancel-first : reply_number (cancel s d).answer ≡ first_of (cancel_cases s d)
  unfolding cancel
  cancel-first = unless-first s d _ (carried_added (ended s) (cancelling s.number) d) (cancel_cases s d)

  pub cancel-refused : is_refusal (cancel s d).answer ≡ true → ((cancel s d).state ≡ s) × ((cancel s d).frame ≡ d)
  unfolding cancel
  cancel-refused = unless-refused s d _ (carried_added (ended s) (cancelling s.number) d) (cancel_cases s d)

  pub cancel-some : (n : ℕ) → (cancel s d).answer ≡ refused n → 0 < n
  unfolding cancel cancel_cases
  cancel-some n = unless-some s d _ (carried_added (ended s) (cancelling s.number) d) (cancel_cases s d) (omega arith, (omega arith, (omega arith, tt))) n

  pub flush-first : reply_number (flush s d).answer ≡ first_of (flush_cases s d)
  unfolding flush
  flush-first = unless-first s d _ (carried_flush s d) (flush_cases s d)

  pub flush-refused : is_refusal (flush s d).answer ≡ true → ((flush s d).state ≡ s) × ((flush s d).frame ≡ d)
  unfolding flush
  flush-refused = unless-refused s d _ (carried_flush s d) (flush_cases s d)

  pub flush-some : (n : ℕ) → (flush s d).answer ≡ refused n → 0 < n
  unfolding flush flush_cases
  flush-some n = unless-some s d _ (carried_flush s d) (flush_cases s d) (omega arith, (omega arith, tt)) n

pub start_first : (v : Version) (p n : ℕ) → start_number (start v p n) ≡ cond (sized p) 0 14
unfolding start start_number
start_first v p n = cond_elim (λ (r : StartReply). start_number r ≡ cond (sized p) 0 14) (sized p) (λ e. rw e) λ e. rw e

-- ---- the order of the cases

pub numbers : List Case → List ℕ
numbers [] = []
numbers (refusal n applies ∷ cs) = n ∷ numbers cs

pub place_numbers : (s : State) (b d : List ℕ) → numbers (place_cases s b d) ≡ 1 ∷ 10 ∷ 11 ∷ 12 ∷ []
unfolding place_cases numbers
place_numbers s b d = refl

pub cancel_numbers : (s : State) (d : List ℕ) → numbers (cancel_cases s d) ≡ 1 ∷ 10 ∷ 13 ∷ []
unfolding cancel_cases numbers
cancel_numbers s d = refl

pub flush_numbers : (s : State) (d : List ℕ) → numbers (flush_cases s d) ≡ 1 ∷ 10 ∷ []
unfolding flush_cases numbers
flush_numbers s d = refl
