-- `wire::after_hints` meets its contract.
use Rattle.std.proofs.Common.{length}
use Rattle.wire.specs.Layout.{hints, chain}
use Rattle.wire.proofs.Chains.{left-walked}
use Rattle.wire.proofs.after_hints.Goals as goal

pub returns-then-hinted : goal.returns-then-hinted
unfolding hints
returns-then-hinted c =
    let s = c.args.s.now in
    rw c.if-hinted.true (left-walked (chain (length s) s) _ (rw (← c.walk_hints.ensures) c.checked_sub.ensures))
