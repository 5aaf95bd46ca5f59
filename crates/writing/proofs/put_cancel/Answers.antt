-- `writing::put_cancel` meets its contract.
use mathlib.Core.Path.{◌∙◌}
use native.Mathlib.Omega.{arith}
use Rattle.octets.specs.Octets.{be32}
use Rattle.octets.proofs.Numbers.{length-be32}
use Rattle.wire.specs.Message.{kind, content_length}
use Rattle.writing.specs.Written.{content_of, written}
use Rattle.writing.proofs.Written.{header-put}
use Rattle.writing.proofs.put_cancel.Goals as goal

pub returns : goal.returns
unfolding written kind content_length content_of
returns c =
    λ v.
    let a = c.args in
    c.put_number.ensures ∙ rw c.put_header.ensures (header-put a.frame.now a.at 5 4 (be32 a.number) (rw (length-be32 a.number) (omega arith)))
