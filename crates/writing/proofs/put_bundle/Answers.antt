-- `writing::put_bundle` meets its contract.
use mathlib.Core.Path.{◌∙◌}
use native.Mathlib.Omega.{arith}
use Rattle.wire.specs.Message.{kind, content_length}
use Rattle.writing.specs.Written.{content_of, written}
use Rattle.writing.proofs.Written.{header-put}
use Rattle.writing.proofs.put_bundle.Goals as goal

pub returns : goal.returns
unfolding written kind content_length content_of
returns c =
    λ v.
    let a = c.args in
    c.copy_into.ensures ∙ rw c.put_header.ensures (header-put a.frame.now a.at 2 _ a.content.now (omega arith))
