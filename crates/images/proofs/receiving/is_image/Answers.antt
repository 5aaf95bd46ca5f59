-- `images::receiving::is_image` meets its contract. The tests in the definition's order.
use borrow.Author.Rules.{rules}
use mathlib.Core.Path.{◌≡◌, ◌∙◌}
use lib.ListN.{drop}
use Rattle.std.specs.Simd.{first_chunks}
use Rattle.std.proofs.Common.{tests}
use Rattle.std.proofs.lemmas.Iterator.{YieldsList-from_slice}
use Rattle.std.proofs.lemmas.Iterator.Search.{all_from_yields_List}
use Rattle.images.specs.Receiver.{is_image, is_row, are_rows, row_size}
use Rattle.images.proofs.Rows.{parts_of, rows_all}
use Rattle.images.proofs.receiving.is_image.Goals as goal

pub returns-then-image-eq0 : goal.returns-then-image-eq0
unfolding is_image
returns-then-image-eq0 c =
    let xs = c.args.image.now in
    let parts : c.as_chunks.result.0.now ≡ first_chunks row_size 16 (drop 8 xs) = c.as_chunks.ensures.front ∙ parts_of 16 xs c.told-image in
    let all = all_from_yields_List is_row _ _ c.all.result c.all.ensures.ran (YieldsList-from_slice c.as_chunks.result.0.now cc) (λ x b q k. search (rules, tests)) in
    let rows : c.all.result ≡ are_rows 16 (drop 8 xs) = all ∙ rw parts (rows_all 16 (drop 8 xs)) in
    search (rules, rows)

pub returns-else-image-eq0 : goal.returns-else-image-eq0
unfolding is_image
returns-else-image-eq0 c = search rules
