use mathlib.Core.Path.{◌≡◌, ◌∙◌}
use borrow.Author.Rules.{rules}
use Rattle.std.specs.Prelude.{sum}
use Rattle.octets.proofs.Sums.{sum_is}
use Rattle.octets.proofs.sum_of.Goals as goal

pub returns : goal.returns
returns c =
    let e : c.sum.result ≡ sum c.args.numbers.now = search rules in
    e ∙ sum_is c.args.numbers.now
