-- `images::sending::is_image` meets its contract.
use Rattle.std.proofs.Common.{rules}
use Rattle.images.specs.Sender.{is_image}
use Rattle.images.proofs.sending.is_image.Goals as goal

pub returns-then-image-eq0 : goal.returns-then-image-eq0
unfolding is_image
returns-then-image-eq0 c = search rules

pub returns-else-image-eq0 : goal.returns-else-image-eq0
unfolding is_image
returns-else-image-eq0 c = search rules
