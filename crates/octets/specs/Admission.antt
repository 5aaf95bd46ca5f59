-- A refusal, if one applies, as a call's code answers it.
use Rattle.std.specs.Prelude.{Result, Ok, Err}
use Rattle.std.proofs.Math.Option.{Option, none, some}

unfoldable pub admission : {Q : Type 0} → Option Q → Result (Unit {0}) Q
admission none = Ok tt
admission (some q) = Err q
