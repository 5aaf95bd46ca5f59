-- A sender used as document 01 says ("Sending calls", from "Demand 2 is about a sender after start" on).
use Rattle.std.specs.Prelude.{◌≡◌, Bool, true, false, cond, not, ◌&&◌, List, [], ◌∷◌, ◌++◌, ℕ, None, Some}
use Rattle.wire.specs.declared.Version.{Version}
use Rattle.framing.specs.declared.State.{State}
use Rattle.framing.specs.Answers.{Reply, placed, placed_and_ready, ready, nothing, refused, Outcome}
use Rattle.sender.specs.Answers.{made, is_refusal}
use Rattle.sender.specs.Calls.{start, place, cancel, flush}
use Rattle.rows.specs.Message.{Handed}

-- "Answers: Placed; Placed and ready; Ready."
unfoldable pub is_ready : Reply → Bool
is_ready placed = false
is_ready placed_and_ready = true
is_ready ready = true
is_ready nothing = false
is_ready (refused n) = false

-- "Placed means that a message was added"
unfoldable pub is_placed : Reply → Bool
is_placed placed = true
is_placed placed_and_ready = true
is_placed ready = false
is_placed nothing = false
is_placed (refused n) = false

-- the frame that the caller takes after a call, if it is ready
unfoldable pub taken : Outcome → List (List ℕ)
taken o = cond (is_ready o.answer) (o.frame ∷ []) []

-- "the bundle is at its end when nothing is begun after it": bundle b of a call on state s, as a transfer if one was begun
unfoldable pub finished : State → List ℕ → Outcome → List Handed
finished s b o =
    cond (is_placed o.answer && not o.state.begun) (record { origin = cond s.begun (Some s.number) None; octets = b } ∷ []) []

-- the calls after start
pub data Call : Type 0 where
  to_place : List ℕ → Call
  to_cancel to_flush : Call

unfoldable pub outcome_of : Call → State → List ℕ → Outcome
outcome_of (to_place b) s d = place s b d
outcome_of to_cancel s d = cancel s d
outcome_of to_flush s d = flush s d

-- After start in draft v with frame size p and first number n and some calls: the state, the frame buffer, the octets lent last, the frames taken and
-- the bundles placed to their end. Each call gets state and frame buffer "as they were left", and each frame is taken "when it is ready".
pub data Used (v : Version) (p n : ℕ) : State → List ℕ → List ℕ → List (List ℕ) → List Handed → Type 0 where
  -- "a sender after start": the frame buffer and the octets lent may be any
  started : {s : State} (d b : List ℕ) → start v p n ≡ made s → Used v p n s d b [] []
  -- "lends the same octets until a bundle is placed to its end or cancelled"
  placing : {s : State} {d b : List ℕ} {fs : List (List ℕ)} {bs : List Handed} (a : List ℕ) → (s.begun ≡ true → a ≡ b) → Used v p n s d b fs bs
      → Used v p n (place s a d).state (place s a d).frame a (fs ++ taken (place s a d)) (bs ++ finished s a (place s a d))
  -- "A cancelled bundle is not placed to its end."
  cancelling : {s : State} {d b : List ℕ} {fs : List (List ℕ)} {bs : List Handed} → Used v p n s d b fs bs
      → Used v p n (cancel s d).state (cancel s d).frame b (fs ++ taken (cancel s d)) bs
  -- "Flush: f of 0 answers Nothing; otherwise it closes the frame, answer Ready."
  flushing : {s : State} {d b : List ℕ} {fs : List (List ℕ)} {bs : List Handed} → Used v p n s d b fs bs
      → Used v p n (flush s d).state (flush s d).frame b (fs ++ taken (flush s d)) bs
  -- a refused call, of any octets and with any frame buffer, "changes no state and no lent memory"
  refusing : {s : State} {d b : List ℕ} {fs : List (List ℕ)} {bs : List Handed} (c : Call) (other : List ℕ)
      → is_refusal (outcome_of c s other).answer ≡ true → Used v p n s d b fs bs → Used v p n (outcome_of c s other).state d b fs bs
