-- What the code of the call answers after the message loop.
use Rattle.std.specs.Prelude.{cond, eqb}
use Rattle.receiver.specs.declared.Answer.{Answer}
use Rattle.receiver.specs.declared.Answer.TheVariants.{Finished, Delivered}
use Rattle.messages.specs.declared.Progress.{Progress}

-- Finished where no bundle is out
unfoldable pub answer_of : Progress → Answer
answer_of p = cond (eqb p.count 0) Finished (Delivered p.used p.next p.origin)
