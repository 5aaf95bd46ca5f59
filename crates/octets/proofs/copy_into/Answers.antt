use mathlib.Core.Path.{refl}
use Rattle.octets.proofs.Put.{put-mid}
use Rattle.octets.proofs.copy_into.Goals as goal

pub returns : goal.returns
returns c = rw c.copy_from_slice.ensures.after (put-mid c.args.to.now c.args.at _ c.args.src.now refl)
