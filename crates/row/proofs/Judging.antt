-- What the row rules say of a segment or an end, by cases: `judge` of specs/Row.antt.
use mathlib.Core.Path.{◌≡◌}
use mathlib.Core.Bool.{Bool, false}
use Prim.Native.Nat.{ℕ, ◌+◌, ◌≤◌}
use native.Mathlib.Omega.{arith}
use lib.Dec.{ltb}
use borrow.Author.Tests.{ltb-false}
use Rattle.octets.proofs.Flags.{cond_elim}
use Rattle.octets.specs.Octets.{sum_of}
use Rattle.pieces.specs.Pieces.{bundle_max, has}
use Rattle.row.specs.declared.Row.{Row}
use Rattle.row.specs.declared.Verdict.{Verdict}
use Rattle.row.specs.declared.Verdict.TheVariants.{Stays, Abandons, Accepts}
use Rattle.row.specs.Row.{indexes_of, lengths_of, is_live, contradicts, judge_live, judge}

pub record Accepted (r : Row) (ending : Bool) (i n : ℕ) : Type 0 where
  pub low : i ≤ 63
  pub agrees : contradicts r ending i ≡ false
  pub new : has i (indexes_of r) ≡ false
  pub fits : sum_of (lengths_of r) + n ≤ bundle_max

module _ (r : Row) (ending : Bool) (i n : ℕ) where
  pub judged : (P : Verdict → Type 0) → P Abandons → P Stays → (Accepted r ending i n → P (Accepts (sum_of (lengths_of r)))) → P (judge r ending i n)
  unfolding judge judge_live
  judged P abandons stays accepts =
      cond_elim P (is_live r.phase)
      (λ live.
      cond_elim P (ltb 63 i) (λ wide. abandons)
      (λ low.
      cond_elim P (contradicts r ending i) (λ c. abandons)
      (λ agrees.
      cond_elim P (has i (indexes_of r)) (λ held. stays)
      (λ new.
      cond_elim P (ltb bundle_max (sum_of (lengths_of r) + n)) (λ over. abandons)
      (λ fits. accepts (record { low = ltb-false 63 i low; agrees = agrees; new = new; fits = ltb-false bundle_max (sum_of (lengths_of r) + n) fits }))))))
      (λ dead. stays)

  pub accepted : (at : ℕ) → judge r ending i n ≡ Accepts at → Accepted r ending i n × (at ≡ sum_of (lengths_of r))
  accepted at =
      judged (λ (v : Verdict). v ≡ Accepts at → Accepted r ending i n × (at ≡ sum_of (lengths_of r)))
      (λ e. let z : ◌≡◌ {A = ℕ} 0 1 = cc in absurd (omega arith))
      (λ e. let z : ◌≡◌ {A = ℕ} 0 1 = cc in absurd (omega arith))
      (λ a e. (a, cc))
