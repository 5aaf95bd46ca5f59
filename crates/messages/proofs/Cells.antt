-- The cells of the pool, and the output behind the bundles that are out: a part that is lent, and the whole when the part is back.
use mathlib.Core.List.{List, ◌++◌, append_assoc, append-nil}
use mathlib.Core.Option.{Option, none, some}
use mathlib.Core.Path.{◌≡◌, sym, ◌∙◌}
use Prim.Native.Nat.{ℕ, ◌+◌, ◌-◌, ◌*◌, ◌≤◌, ◌<◌}
use native.Mathlib.Omega.{arith}
use lib.ListN.{length, take, drop, length-take, length-drop, drop_of_length-le}
use lib.Seq.{take_all, drop-drop}
use borrow.Rule.Slice.PartMut.{put_mid, put_same}
use Rattle.octets.specs.Octets.{put}
use Rattle.octets.proofs.Put.{length-put}
use Rattle.pieces.specs.Pieces.{bundle_max}
use Rattle.reassembly.specs.Rules.{written}
use Rattle.rows.specs.Message.{cell_at, put_cell}
use Rattle.messages.specs.Run.{written_at}

-- what is put back for a part that ends at e
pub put_back : (a k : ℕ) (xs ys : List ℕ) → length ys ≡ k → put_mid a k xs ys ≡ put xs a ys
unfolding put
put_back a k xs ys l = rw (← append_assoc (take a xs) ys (drop k (drop a xs)), drop-drop k a xs, l)

module _ (pool : List ℕ) (r : ℕ) where
  abbrev base : ℕ
  base = r * bundle_max

  width : base + bundle_max - base ≡ bundle_max
  width = omega arith

  pub lent-cell : take (base + bundle_max - base) (drop base pool) ≡ cell_at pool r
  unfolding cell_at
  lent-cell = rw width

  pub cell-back : (cell : List ℕ) → length cell ≡ bundle_max → put_mid base (base + bundle_max - base) pool cell ≡ put_cell pool r cell
  unfolding put_cell
  cell-back cell l = rw width (put_back base bundle_max pool cell l)

pub length-cell-in : (pool : List ℕ) (r : ℕ) → r * bundle_max + bundle_max ≤ length pool → length (cell_at pool r) ≡ bundle_max
unfolding cell_at
length-cell-in pool r within = rw (length-take, length-drop) (omega (arith, within))

module _ (w : ℕ) (pool : List ℕ) (full : length pool ≡ w * bundle_max) (r : ℕ) (r< : r < w) where
  pub cell-within : r * bundle_max + bundle_max ≤ length pool
  cell-within = omega (arith, full)

  pub length-cell : length (cell_at pool r) ≡ bundle_max
  length-cell = length-cell-in pool r cell-within

  pub length-put-cell : (cell : List ℕ) → length cell ≡ bundle_max → length (put_cell pool r cell) ≡ w * bundle_max
  unfolding put_cell
  length-put-cell cell l = length-put pool (r * bundle_max) cell (omega (arith, cell-within)) ∙ full

  -- a cell that is put back as it was
  pub same-cell : put_cell pool r (cell_at pool r) ≡ pool
  unfolding put_cell cell_at
  same-cell = sym (put_back (r * bundle_max) bundle_max pool (cell_at pool r) length-cell) ∙ put_same (r * bundle_max) bundle_max pool

module _ (output : List ℕ) (used : ℕ) (within : used ≤ length output) where
  abbrev part : List ℕ
  part = take (length output - used) (drop used output)

  pub length_part : length part ≡ length output - used
  length_part = rw (length-take, length-drop) (omega arith)

  part-is : part ≡ drop used output
  part-is = take_all (length output - used) (drop used output) (rw length-drop (omega arith))

  put_front : (bundle : List ℕ) → put_mid used (length output - used) output (put part 0 bundle) ≡ put output used bundle
  unfolding put
  put_front bundle =
      let n : 0 + length bundle ≡ length bundle = omega arith in
      let ends : length output ≤ used + (length output - used) = omega arith in
      rw (part-is, n, drop-drop (length bundle) used output, drop-drop (length output - used) used output, drop_of_length-le output {i = used + (length output - used)} ends, append-nil (bundle ++ drop (used + length bundle) output), ← append_assoc (take used output) bundle (drop (used + length bundle) output))

  pub output-back : (o : Option (List ℕ)) → put_mid used (length output - used) output (written o part) ≡ written_at used o output
  unfolding written written_at
  output-back none = put_same used (length output - used) output
  output-back (some bundle) = put_front bundle
