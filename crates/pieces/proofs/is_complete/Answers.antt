-- `pieces::is_complete` meets its contract. Entries fewer than the indexes up to the final are not all of them; else the search tells.
use mathlib.Core.Path.{◌≡◌, refl, sym, ◌∙◌}
use mathlib.Mathlib.Data.Bool.Basic.{eq-false-eq-not-eq-true}
use mathlib.Core.Bool.{Bool, true, false, ◌&&◌}
use mathlib.Core.List.{List}
use Prim.Native.Nat.{ℕ, ◌+◌, ◌≤◌}
use native.Mathlib.Omega.{arith}
use lib.ListN.{length}
use borrow.Author.Tests.{ltb-false}
use Rattle.pieces.proofs.Counting.{all-count}
use Rattle.pieces.specs.Pieces.{has_all}
use Rattle.pieces.proofs.is_complete.Goals.{then-known, else-known}
use Rattle.pieces.proofs.is_complete.Goals as goal

lacks : (known : Bool) (last : ℕ) (is : List ℕ) → (known ≡ true → length is ≤ last) → (known && has_all (last + 1) is) ≡ false
lacks true last is h = (eq-false-eq-not-eq-true (has_all (last + 1) is)).0 (λ a. omega (arith, all-count (last + 1) is a, h refl))
lacks false last is h = refl

few : (c : goal.Else-last-indexes) → c.args.known ≡ true → length c.args.indexes.now ≤ c.args.last
few c k =
    elim c.if-known.branch [
      | then-known w ↦ ltb-false c.args.last (length c.args.indexes.now) (sym w.value-is ∙ c.if-last-indexes.false)
      | else-known w ↦ absurd (cc)
    ]

pub returns-else-last-indexes : goal.returns-else-last-indexes
returns-else-last-indexes c = c.if-last-indexes.false ∙ sym (lacks c.args.known c.args.last c.args.indexes.now (few c))
