-- `receiver::receive` meets its contract.
use mathlib.Core.Option.{Option, none}
use mathlib.Core.Path.{◌≡◌, sym, ap, ◌∙◌}
use Prim.Native.Nat.{ℕ}
use native.Mathlib.Omega.{arith}
use Rattle.std.proofs.Common.{None}
use Rattle.std.proofs.lemmas.Result.{err_from_is_err_and}
use Rattle.wire.proofs.Spans.{sized}
use Rattle.rows.specs.State.{window_of}
use Rattle.rows.specs.Message.{draft_of, Board, messages_from}
use Rattle.receiver.specs.Receive.{refusal}
use Rattle.receiver.specs.declared.Refusal.{Refusal}
use Rattle.receiver.proofs.Limit.{reply_of, one-bundle, few_messages}
use Rattle.octets.proofs.Admitting.{denied, admitted}
use Rattle.receiver.proofs.Refusals.{refused, treated, Admits, admits}
use Rattle.rows.specs.declared.State.{State}
use mathlib.Core.List.{List}
use Prim.Native.Nat.{ℕ}
use Rattle.receiver.proofs.receive.Goals as goal
use Rattle.receiver.proofs.receive.Goals.{In_ok-admit}

module _ (s : State) (pool : List ℕ) where
  abbrev board : Board
  board = record { state = s; pool = pool }

  abbrev asked : List ℕ → ℕ → List ℕ → Option Refusal
  asked frame place output = refusal (draft_of s) (window_of s) board frame place output

-- a call that is not refused
module _ (c : In_ok-admit) where
  none-applies : (let a = c.args in asked a.state.now a.pool.now a.frame.now a.place a.output.now) ≡ none
  none-applies = let a = c.args in admitted (asked a.state.now a.pool.now a.frame.now a.place a.output.now) (sym c.admit.ensures ∙ c.in_ok-admit.was)

  admitting : let a = c.args in Admits (draft_of a.state.now) (window_of a.state.now) (board a.state.now a.pool.now) a.frame.now a.place a.output.now
  admitting = let a = c.args in admits (draft_of a.state.now) (window_of a.state.now) (board a.state.now a.pool.now) a.frame.now a.place a.output.now none-applies

pub returns-in_err-admit : goal.returns-in_err-admit
returns-in_err-admit c =
    let a = c.args in
    let p = err_from_is_err_and c.from_residual.result c.from_residual.ensures.1 in
    rw (p.1, p.2)
    (sym (refused (draft_of a.state.now) (window_of a.state.now) (board a.state.now a.pool.now) a.frame.now a.place a.output.now _
    (denied (asked a.state.now a.pool.now a.frame.now a.place a.output.now) _ (sym c.admit.ensures ∙ c.in_err-admit.was))))

pub run-progress-requires : goal.run-progress-requires
run-progress-requires c =
    let f = admitting (goal.at.run-progress-requires c).In_ok-admit in
    rw c.begun.ensures (record { sound = f.state; pooled = f.pool; used = omega arith }, f.frame-fit.small, f.frame-fit.accepted)

pub returns : goal.returns
returns c =
    let a = c.args in
    let D = draft_of a.state.now in
    let w = window_of a.state.now in
    let b = board a.state.now a.pool.now in
    let f = admitting (goal.at.returns c).In_ok-admit in
    rw c.answer_of.ensures
    (ap reply_of (rw c.begun.ensures at c.run-progress.ensures.0)
    ∙ one-bundle D w _ _ _ 0 b (messages_from D a.frame.now a.place) a.output.now a.place None f.room (omega (arith, few_messages D (sized a.state.now.settings.version) a.frame.now a.place f.frame-fit.accepted, f.frame-fit.small))
    ∙ sym (treated D w b a.frame.now a.place a.output.now (none-applies (goal.at.returns c).In_ok-admit)))
