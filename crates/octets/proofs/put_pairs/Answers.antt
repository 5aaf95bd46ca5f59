use native.Mathlib.Omega.{arith}
use mathlib.Core.Path.{refl, sym}
use Rattle.octets.proofs.Put.{put-none}
use Rattle.octets.specs.Octets.{spread}
use Rattle.octets.proofs.Pairs.{spread-turn, spread_end}
use Rattle.octets.proofs.put_pairs.Goals as goal

pub loop-j-init : goal.loop-j-init
unfolding spread
loop-j-init c = (sym (put-none _ c.args.at), refl)

pub loop-j-preserved : goal.loop-j-preserved
loop-j-preserved c =
    let l = c.loop-j in
    spread-turn _ _ _ c.args.numbers.now c.args.at l.j l.invariant.0 l.invariant.1 (omega arith) (omega (arith, c.requires)) c.put_number16.ensures

pub returns : goal.returns
returns c = let l = c.loop-j in spread_end _ _ c.args.numbers.now c.args.at l.j l.invariant.0 (omega arith)
