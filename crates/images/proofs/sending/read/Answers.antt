-- `images::sending::read` meets its contract.
use mathlib.Core.Bool.{Bool, cond}
use mathlib.Core.Path.{◌≡◌}
use Rattle.std.specs.Prelude.{Option, Some, None}
use Rattle.std.specs.Option.{is_some, IfSome}
use borrow.Author.Rules.{rules}
use Rattle.framing.specs.declared.State.{State}
use Rattle.images.specs.Sender.{state_of, read}
use Rattle.images.proofs.sending.read.Goals as goal

then_is : (o : Option State) (b : Bool) (s : State) (P : State → Type 0) → is_some o ≡ b → IfSome o P → ((t : State) → P t → t ≡ s) → o ≡ cond b (Some s) None
then_is None b s P e h f = rw (← e)
then_is (Some t) b s P e h f = rw (← e, f t h)

pub returns : goal.returns
unfolding read
returns c =
    rw (← c.is_image.ensures) (then_is c.then.result c.is_image.result (state_of c.args.image.now) _ c.then.ensures.variant c.then.ensures.some (λ t p. search rules))
