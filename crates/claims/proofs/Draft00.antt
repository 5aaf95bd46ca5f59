-- The cases of draft 00 compute to what document 000 says.
use mathlib.Core.Path.{◌≡◌, refl}
use mathlib.Core.List.{map}
use Rattle.wire.specs.declared.Version.TheVariants.{Draft00}
use Rattle.claims.specs.Marked as Marked
use Rattle.claims.specs.Marked.{fresh_board}
use Rattle.claims.specs.Draft00 as Cases
use Rattle.claims.specs.Draft00.{Case, answers, cases}
use Rattle.claims.proofs.Computing.{computing}

pub draft00_cases : map (λ (c : Case). answers (fresh_board Draft00) c.frames) cases ≡ map (λ (c : Case). c.answered) cases
unfolding computing Marked.output Marked.fresh_board Marked.taken_from Marked.marked_as Marked.marked Cases.answers Cases.cases
draft00_cases = refl
