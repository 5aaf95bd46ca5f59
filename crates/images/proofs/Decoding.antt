-- What is read of octets that may be an image: the state, or nothing.
use mathlib.Core.Bool.{Bool, true, false, cond}
use mathlib.Core.Path.{◌≡◌, refl}
use Rattle.std.proofs.Common.{Some, None}

pub some_read : {S : Type 0} (b : Bool) {x : S} (s : S) → Some s ≡ cond b (Some x) None → (b ≡ true) × (x ≡ s)
some_read true s e = (refl, cc)
some_read false s e = cc

pub none_read : {S : Type 0} (b : Bool) (x : S) → None ≡ cond b (Some x) None → b ≡ false
none_read true x e = cc
none_read false x e = refl
