-- `framing::cancelling` meets its contract.
use Rattle.std.proofs.Common.{sym}
use Rattle.wire.specs.Message as Message
use Rattle.wire.specs.Message.{content_length}
use Rattle.writing.proofs.Written.{length-written}
use Rattle.framing.specs.Placing.{ended}
use Rattle.framing.proofs.Steps.{is-added}
use Rattle.framing.proofs.cancelling.Goals as goal

pub returns : goal.returns
unfolding content_length
returns c =
    let s = c.args.s.now in
    is-added _ (ended s) _ _ 8 (Message.cancel s.number) c.args.frame.now _ c.ended.ensures c.advanced.ensures (sym (length-written s.version (Message.cancel s.number))) (c.put_cancel.ensures s.version)
