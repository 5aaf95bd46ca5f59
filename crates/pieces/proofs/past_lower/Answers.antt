-- `pieces::past_lower` meets its contract. Each return is one of the definition's cases.
use borrow.Author.Tests.{lt-ltb, le-ltb}
use Rattle.pieces.specs.Search.{past_lower}
use Rattle.pieces.proofs.past_lower.Goals.{else-place-indexes-via-then-place-indexes+else-indexes-place, else-place-indexes-via-else-place-indexes}
use Rattle.pieces.proofs.past_lower.Goals as goal

pub returns-then-indexes-place-clause-place : goal.returns-then-indexes-place-clause-place
unfolding past_lower
returns-then-indexes-place-clause-place c = rw (lt-ltb _ _ c.if-place-indexes.true, lt-ltb _ _ c.if-indexes-place.true)

pub returns-clause-place : goal.returns-clause-place
unfolding past_lower
returns-clause-place c =
    elim c.else-place-indexes.branch [
      | else-place-indexes-via-then-place-indexes+else-indexes-place w ↦ rw (lt-ltb _ _ w.if-place-indexes.true, le-ltb _ _ w.if-indexes-place.false)
      | else-place-indexes-via-else-place-indexes w ↦ rw (le-ltb _ _ w.if-place-indexes.false)
    ]
