-- The answer of start, and which refusal a sending call gives (document 01, "Sending calls" and "Numbers of refusal").
use Rattle.std.specs.Prelude.{Bool, true, false, cond, List, [], ◌∷◌, ℕ, Result, Ok, Err}
use Rattle.framing.specs.declared.State.{State}
use Rattle.framing.specs.declared.Refusal.{Refusal}
use Rattle.framing.specs.Answers.{Reply, placed, placed_and_ready, ready, nothing, refused, refusal_number, Outcome}

pub data StartReply : Type 0 where
  made : State → StartReply
  denied : ℕ → StartReply

unfoldable pub start_reply : Result State Refusal → StartReply
start_reply (Ok s) = made s
start_reply (Err r) = denied (refusal_number r)

-- A row of the table of refusals: the number, and whether its case applies.
pub data Case : Type 0 where
  refusal : ℕ → Bool → Case

-- The first that applies is given, and changes no state and no lent memory; where none applies, the call is carried out.
unfoldable pub unless : List Case → State → List ℕ → Outcome → Outcome
unless [] s d o = o
unless (refusal n applies ∷ cs) s d o = cond applies (record { answer = refused n; state = s; frame = d }) (unless cs s d o)

-- the number of the first case that applies, 0 for none
unfoldable pub first_of : List Case → ℕ
first_of [] = 0
first_of (refusal n applies ∷ cs) = cond applies n (first_of cs)

-- the number of the refusal that a test of the cases gives, 0 where it gives none
unfoldable pub given : {A : Type 0} → Result A Refusal → ℕ
given (Ok a) = 0
given (Err r) = refusal_number r

unfoldable pub is_refusal : Reply → Bool
is_refusal placed = false
is_refusal placed_and_ready = false
is_refusal ready = false
is_refusal nothing = false
is_refusal (refused n) = true

-- the number of refusal that an answer gives, 0 for none
unfoldable pub reply_number : Reply → ℕ
reply_number placed = 0
reply_number placed_and_ready = 0
reply_number ready = 0
reply_number nothing = 0
reply_number (refused n) = n

unfoldable pub start_number : StartReply → ℕ
start_number (made s) = 0
start_number (denied n) = n
