-- What a call's code answers says whether a refusal applies: `admission` of specs/Admission.antt.
use mathlib.Core.Path.{◌≡◌, refl}
use mathlib.Core.Option.{Option, none, some}
use Prim.Native.Nat.{ℕ}
use native.Mathlib.Omega.{arith}
use Rattle.std.proofs.Common.{Ok, Err}
use Rattle.octets.specs.Admission.{admission}

pub denied : {Q : Type 0} (o : Option Q) (q : Q) → admission o ≡ Err q → o ≡ some q
unfolding admission
denied none q e = absurd (let z : ◌≡◌ {A = ℕ} 0 1 = cc in omega arith)
denied (some r) q e = cc

pub admitted : {Q : Type 0} (o : Option Q) → admission o ≡ Ok (tt {0}) → o ≡ none
unfolding admission
admitted none e = refl
admitted (some r) e = absurd (let z : ◌≡◌ {A = ℕ} 0 1 = cc in omega arith)
