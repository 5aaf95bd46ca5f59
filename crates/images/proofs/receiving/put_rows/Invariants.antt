-- `images::receiving::put_rows` meets its contract. The first k rows are written.
use mathlib.Core.Path.{◌≡◌}
use Prim.Native.Nat.{◌*◌}
use lib.ListN.{length, take}
use Rattle.octets.specs.Octets.{put}
use Rattle.images.specs.Receiver.{row_size, rows_image}
use Rattle.images.proofs.receiving.put_rows.Given as goal

abbrev pub invariant-loop-k : goal.invariant-loop-k
invariant-loop-k l =
    (l.image ≡ put l.initial.image 8 (rows_image (take l.k l.row-items))) × (length (rows_image (take l.k l.row-items)) ≡ l.k * row_size)
