-- What the sending calls do (document 01, "Sending calls"), with the refusals of "Numbers of refusal".
use Rattle.std.specs.Prelude.{false, not, cond, ◌&&◌, ◌||◌, List, [], ◌∷◌, ℕ, length, ltb, eqb}
use Rattle.wire.specs.declared.Version.{Version}
use Rattle.wire.specs.Message.{cancel as cancelling}
use Rattle.framing.specs.declared.State.{State}
use Rattle.framing.specs.Answers.{nothing, Outcome}
use Rattle.framing.specs.Placing.{bundle_max, ended, added, closed, placing}
use Rattle.sender.specs.Answers.{StartReply, made, denied, Case, refusal, unless}
use Rattle.sender.specs.Sound.{sized, sound}

abbrev pub fresh : Version → ℕ → ℕ → State
fresh v p n = record { size = p; fill = 0; next = n; begun = false; number = 0; length = 0; placed = 0; index = 0; version = v }

unfoldable pub start : Version → ℕ → ℕ → StartReply
start v p n = cond (sized p) (made (fresh v p n)) (denied 14)

-- State unsound; frame buffer not P octets.
abbrev pub common : State → List ℕ → List Case → List Case
common s d cs = refusal 1 (not (sound s)) ∷ refusal 10 (not (eqb (length d) s.size)) ∷ cs

-- Bundle of 0 or over 4,096 octets; not the length of the transfer begun.
unfoldable pub place_cases : State → List ℕ → List ℕ → List Case
place_cases s b d =
    common s d (refusal 11 (eqb (length b) 0 || ltb bundle_max (length b)) ∷ refusal 12 (s.begun && not (eqb (length b) s.length)) ∷ [])

unfoldable pub place : State → List ℕ → List ℕ → Outcome
place s b d = unless (place_cases s b d) s d (placing s b d)

-- No transfer begun.
unfoldable pub cancel_cases : State → List ℕ → List Case
cancel_cases s d = common s d (refusal 13 (not s.begun) ∷ [])

-- Appends a cancel for the transfer begun and ends it.
unfoldable pub cancel : State → List ℕ → Outcome
cancel s d = unless (cancel_cases s d) s d (added (ended s) (cancelling s.number) d)

unfoldable pub flush_cases : State → List ℕ → List Case
flush_cases s d = common s d []

-- f of 0 answers Nothing; otherwise it closes the frame.
unfoldable pub flush : State → List ℕ → Outcome
flush s d = unless (flush_cases s d) s d (cond (eqb s.fill 0) (record { answer = nothing; state = s; frame = d }) (closed s d))
