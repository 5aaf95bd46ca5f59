-- The row of one number of an honest record: what it holds, by index, and what a piece or a cancel makes of it.
use mathlib.Core.Path.{◌≡◌, refl, sym, ap, ◌∙◌}
use mathlib.Core.Bool.{Bool, true, false, cond, ◌||◌, and-false, or-false, false≢true}
use mathlib.Core.Logic.{◌⊎◌, inl, inr}
use mathlib.Core.Option.{Option, none, some}
use mathlib.Core.List.{List, [], ◌∷◌, ◌++◌, map, append_assoc, append-nil, map-append}
use Prim.Native.Nat.{ℕ, zero, suc, ◌+◌, ◌≤◌, ◌<◌}
use native.Mathlib.Numerals.{add-one}
use native.Mathlib.Omega.{arith}
use lib.ListN.{length, get_or, take, drop, length-append, length-set}
use lib.Seq.{take-append_seam, drop-append_seam, take-suc-set, drop-append-add, take-suc, take-length}
use lib.Dec.{ltb, eqb}
use borrow.Author.Tests.{eqb-true, eqb-false, eq-eqb, ne_eqb, le-ltb}
use Rattle.octets.specs.Octets.{put, sum_of}
use Rattle.octets.proofs.Flags.{bool, both, or_right}
use Rattle.octets.proofs.Put.{length-put}
use Rattle.pieces.specs.declared.Order.{Order}
use Rattle.pieces.specs.declared.Order.TheVariants.{Rising, Falling}
use Rattle.row.specs.declared.Row.{Row}
use Rattle.row.specs.declared.Phase.TheVariants.{Free, Done, Cancelled}
use Rattle.pieces.specs.Pieces.{bundle_max, has, has_above, has_all, piece, joined}
use Rattle.row.specs.Row.{indexes_of, lengths_of, empty_row, is_live, contradiction, contradicts, judge_live, judge}
use Rattle.reassembly.specs.Rules.{cancelled, last_after, with_piece, complete, bundle_of, Outcome, settle, carry_out, piece_step, cancel_step}
use Rattle.pieces.proofs.Joining.{piece-cons}
use Rattle.row.proofs.Shaped.{Shaped, empty_shaped}
use Rattle.claims.specs.Record.{is_last}
use Rattle.claims.specs.Demand3.{join}
use Rattle.claims.proofs.Held.{has-snoc, has_either, all-has, lack, lack-add}
use Rattle.claims.proofs.Track.{Track, live, whole, stopped, add, settled, stop, newly}

-- ---- lists with one entry more

pub join-rising : (xs : List (List ℕ)) (y : List ℕ) → join Rising (xs ++ y ∷ []) ≡ join Rising xs ++ y
unfolding join
join-rising [] y = append-nil y
join-rising (x ∷ xs) y = rw (join-rising xs y) (sym (append_assoc x (join Rising xs) y))

join-falling : (xs : List (List ℕ)) (y : List ℕ) → join Falling (xs ++ y ∷ []) ≡ y ++ join Falling xs
unfolding join
join-falling [] y = sym (append-nil y)
join-falling (x ∷ xs) y = rw (join-falling xs y) (append_assoc y (join Falling xs) x)

pub sum-append : (xs ys : List ℕ) → sum_of (xs ++ ys) ≡ sum_of xs + sum_of ys
unfolding sum_of
sum-append [] ys = omega arith
sum-append (x ∷ xs) ys = omega (arith, sum-append xs ys)

above-none : (i : ℕ) (hs : List ℕ) → ((j : ℕ) → has j hs ≡ true → j ≤ i) → has_above i hs ≡ false
unfolding has_above has
above-none i [] low = refl
above-none i (j ∷ js) low = rw (le-ltb i j (low j (rw (eq-eqb j j refl)))) (above-none i js (λ k p. low k (or_right (eqb j k) (has k js) p)))

-- piece i of n, an end if it is the last, is no contradiction to a final index that is the last piece's
agrees : (known held above ending : Bool) (last i n : ℕ) → i < n → (known ≡ true → suc last ≡ n) → (ending ≡ true → (suc i ≡ n) × (above ≡ false) × (held ≡ known)) → (ending ≡ false → suc i < n)
    → contradiction known last held above i ending ≡ false
agrees true held above true last i n i< f e m =
    let l = f refl in let q = e refl in
    rw (le-ltb last i (omega arith), eq-eqb i last (omega arith), eq-eqb last i (omega arith), q.1) (and-false held)
agrees true held above false last i n i< f e m =
    let l = f refl in let q = m refl in
    rw (le-ltb last i (omega arith), ne_eqb last i (omega arith)) (and-false held)
agrees false held above true last i n i< f e m = let q = e refl in rw (q.1, q.2)
agrees false held above false last i n i< f e m = and-false held

module _ (ps : List (List ℕ)) where
  abbrev at : ℕ → List ℕ
  at i = get_or ps i []

  unfoldable octets : List ℕ → List ℕ
  octets [] = []
  octets (i ∷ is) = at i ++ octets is

  abbrev size_at : ℕ → ℕ
  size_at i = length (at i)

  -- The row holds the pieces hs, in order of arrival.
  pub record Holds (r : Row) (cell : List ℕ) (hs : List ℕ) : Type 0 where
    alive : is_live r.phase ≡ true
    counted : r.held ≡ length hs
    index : indexes_of r ≡ hs
    size : lengths_of r ≡ map size_at hs
    rest : List ℕ
    laid : cell ≡ octets hs ++ rest
    shaped : Shaped r
    cell_size : length cell ≡ bundle_max
    below : (i : ℕ) → has i hs ≡ true → i < length ps
    ended : (i : ℕ) → suc i ≡ length ps → r.known ≡ has i hs
    final : r.known ≡ true → suc r.last ≡ length ps
    weight : length (octets hs) + lack size_at (length ps) hs ≡ sum_of (map length ps)
    number : length hs + lack (λ i. 1) (length ps) hs ≡ length ps

  sum_octets : (hs : List ℕ) → sum_of (map size_at hs) ≡ length (octets hs)
  unfolding sum_of octets
  sum_octets [] = refl
  sum_octets (i ∷ is) = rw (sum_octets is, length-append)

  octets_snoc : (hs : List ℕ) (i : ℕ) → octets (hs ++ i ∷ []) ≡ octets hs ++ at i
  unfolding octets
  octets_snoc [] i = append-nil (at i)
  octets_snoc (j ∷ js) i = rw (octets_snoc js i) (sym (append_assoc (at j) (octets js) (at i)))

  piece-at : (i : ℕ) (hs rest : List ℕ) → has i hs ≡ true → piece i hs (map size_at hs) (octets hs ++ rest) ≡ at i
  unfolding has octets
  piece-at i [] rest h = absurd (false≢true h)
  piece-at i (j ∷ js) rest h = piece-cons i j (size_at j) js (map size_at js) ((at j ++ octets js) ++ rest) ∙ go (piece-at i js rest) (bool (eqb j i))
    where
      regroup : (at j ++ octets js) ++ rest ≡ at j ++ (octets js ++ rest)
      regroup = append_assoc (at j) (octets js) rest

      go : (has i js ≡ true → piece i js (map size_at js) (octets js ++ rest) ≡ at i) → (eqb j i ≡ true) ⊎ (eqb j i ≡ false)
          → cond (eqb j i) (take (size_at j) ((at j ++ octets js) ++ rest)) (piece i js (map size_at js) (drop (size_at j) ((at j ++ octets js) ++ rest))) ≡ at i
      go ih (inl e) = rw (e, regroup, take-append_seam) (ap at (eqb-true j i e))
      go ih (inr e) = rw (e, regroup, drop-append_seam) (ih (rw e at h))

  joined_is : (order : Order) (n : ℕ) (hs rest : List ℕ) → has_all n hs ≡ true → n ≤ length ps → joined order n hs (map size_at hs) (octets hs ++ rest) ≡ join order (take n ps)
  unfolding joined has_all join
  joined_is order zero hs rest all le = refl
  joined_is Rising (suc n) hs rest all le =
      let p = both (has n hs) (has_all n hs) all in
      rw (take-suc ps n [], joined_is Rising n hs rest p.1 (omega arith), piece-at n hs rest p.0) (sym (join-rising (take n ps) (at n)))
  joined_is Falling (suc n) hs rest all le =
      let p = both (has n hs) (has_all n hs) all in
      rw (take-suc ps n [], joined_is Falling n hs rest p.1 (omega arith), piece-at n hs rest p.0) (sym (join-falling (take n ps) (at n)))

  lack_ones : (n : ℕ) → lack (λ i. 1) n [] ≡ n
  unfolding lack has
  lack_ones zero = refl
  lack_ones (suc n) = omega (arith, lack_ones n)

  lack_all : (n : ℕ) → n ≤ length ps → lack size_at n [] ≡ sum_of (map length (take n ps))
  unfolding lack has sum_of
  lack_all zero h = refl
  lack_all (suc n) h = rw (take-suc ps n [], map-append length (take n ps) (at n ∷ []), sum-append, lack_all n (omega arith)) (omega arith)

  pub holds-none : (cell : List ℕ) → length cell ≡ bundle_max → Holds (empty_row Free) cell []
  unfolding has octets indexes_of lengths_of
  holds-none cell c = record {
    alive = refl;
    counted = refl;
    index = refl;
    size = refl;
    rest = cell;
    laid = refl;
    shaped = empty_shaped Free;
    cell_size = c;
    below = λ i e. absurd (false≢true e);
    ended = λ i e. refl;
    final = λ e. absurd (false≢true e);
    weight = rw (lack_all (length ps) (omega arith), take-length) (omega arith);
    number = rw (lack_ones (length ps)) (omega arith);
  }

  module _ {r : Row} {cell hs : List ℕ} (h : Holds r cell hs) (i : ℕ) (i< : i < length ps) where
    is-last : is_last ps i ≡ true → suc i ≡ length ps
    is-last e = omega (arith, eqb-true (i + 1) (length ps) e)

    not_last : is_last ps i ≡ false → suc i < length ps
    not_last e = omega (arith, eqb-false (i + 1) (length ps) e)

    no_contradiction : contradicts r (is_last ps i) i ≡ false
    unfolding contradicts
    no_contradiction =
        rw h.index
        (agrees r.known (has i hs) (has_above i hs) (is_last ps i) r.last i (length ps) i< h.final
        (λ e. let l = is-last e in (l, above-none i hs (λ j p. let q = h.below j p in omega arith), sym (h.ended i l)))
        not_last)

    -- A new piece is laid behind what is held.
    module _ (new : has i hs ≡ false) where
      fits : length (octets hs) + size_at i ≤ sum_of (map length ps)
      fits = omega (arith, h.weight, lack-add size_at i hs new (length ps) i<)

      room : length hs < length ps
      room = omega (arith, h.number, lack-add (λ j. 1) i hs new (length ps) i<)

      ended-snoc : (j : ℕ) → suc j ≡ length ps → (r.known || is_last ps i) ≡ has j (hs ++ i ∷ [])
      ended-snoc j q = rw (has-snoc j i hs, h.ended j q) (ap (λ b. has j hs || b) (go (bool (eqb i j))))
        where
          go : (eqb i j ≡ true) ⊎ (eqb i j ≡ false) → is_last ps i ≡ eqb i j
          go (inl e) = eq-eqb (i + 1) (length ps) (omega (arith, eqb-true i j e)) ∙ sym e
          go (inr e) = let ne = eqb-false i j e in ne_eqb (i + 1) (length ps) (omega arith) ∙ sym e

      final_snoc : (b : Bool) → is_last ps i ≡ b → (r.known || b) ≡ true → suc (last_after r.last i b) ≡ length ps
      final_snoc true e k = is-last e
      final_snoc false e k = h.final (rw (or-false r.known) at k)

      length-snoc : length (octets (hs ++ i ∷ [])) ≡ length (octets hs) + size_at i
      length-snoc = ap length (octets_snoc hs i) ∙ length-append (octets hs) (at i)

      holds-add : length ps ≤ 64 → sum_of (map length ps) ≤ bundle_max → Holds (with_piece r (is_last ps i) i (size_at i)) (put cell (length (octets hs)) (at i)) (hs ++ i ∷ [])
      unfolding with_piece indexes_of lengths_of put
      holds-add few small =
          let c< : r.held < 64 = omega (arith, room, h.counted) in
          record {
            alive = refl;
            counted = rw (length-append hs (i ∷ []), h.counted);
            index = rw (add-one, take-suc-set r.indexes r.held i (omega (arith, h.shaped.indexes64)), h.index);
            size = rw (add-one, take-suc-set r.lengths r.held (size_at i) (omega (arith, h.shaped.lengths64)), h.size) (sym (map-append size_at hs (i ∷ [])));
            rest = drop (size_at i) h.rest;
            laid = rw (h.laid, take-append_seam, drop-append-add, octets_snoc hs i);
            shaped = record { indexes64 = simp length-set h.shaped.indexes64; lengths64 = simp length-set h.shaped.lengths64 };
            cell_size = length-put cell (length (octets hs)) (at i) (omega (arith, fits, h.cell_size)) ∙ h.cell_size;
            below = has_either (λ j. j < length ps) i hs h.below i<;
            ended = ended-snoc;
            final = final_snoc (is_last ps i) refl;
            weight = omega (arith, length-snoc, h.weight, lack-add size_at i hs new (length ps) i<);
            number = omega (arith, length-append hs (i ∷ []), h.number, lack-add (λ j. 1) i hs new (length ps) i<);
          }

  -- What a row and its cell are for a track.
  unfoldable pub Represents : Row → List ℕ → Track → Type 0
  Represents r cell (live hs) = Holds r cell hs
  Represents r cell whole = r.phase ≡ Done
  Represents r cell stopped = r.phase ≡ Cancelled

  unfoldable pub bundle_if : Order → Bool → Option (List ℕ)
  bundle_if order b = cond b (some (join order ps)) none

  pub record Stepped (order : Order) (o : Outcome) (t t' : Track) : Type 0 where
    pub stands : Represents o.row o.cell t'
    pub gives : o.bundle ≡ bundle_if order (newly t t')
    pub sized : length o.cell ≡ bundle_max

  module _ (order : Order) (few : length ps ≤ 64) (small : sum_of (map length ps) ≤ bundle_max) where
    -- the row is complete where every piece is held
    covered : {r : Row} {cell hs : List ℕ} → Holds r cell hs → 0 < length ps → complete r ≡ has_all (length ps) hs
    unfolding complete
    covered {r} {cell} {hs} h pos = go (bool r.known) (bool (has_all (length ps) hs)) (length ps) refl
      where
        go : (r.known ≡ true) ⊎ (r.known ≡ false) → (has_all (length ps) hs ≡ true) ⊎ (has_all (length ps) hs ≡ false) → (n : ℕ) → n ≡ length ps → complete r ≡ has_all (length ps) hs
        go (inl k) a n e = rw (h.index, add-one, h.final k, k)
        go (inr k) (inl a) zero e = absurd (omega arith)
        go (inr k) (inl a) (suc i) e = absurd (false≢true (sym k ∙ h.ended i e ∙ all-has (length ps) hs a i (omega arith)))
        go (inr k) (inr a) n e = rw (k, a)

    known-complete : (r : Row) → complete r ≡ true → r.known ≡ true
    unfolding complete
    known-complete r e = (both r.known (has_all (r.last + 1) (indexes_of r)) e).0

    settles : {r : Row} {cell hs : List ℕ} (js : List ℕ) → Holds r cell hs → 0 < length ps → Stepped order (settle order r cell) (live js) (settled (length ps) hs)
    unfolding settle settled Represents bundle_if newly bundle_of
    settles {r} {cell} {hs} js h pos = go (bool (has_all (length ps) hs))
      where
        go : (has_all (length ps) hs ≡ true) ⊎ (has_all (length ps) hs ≡ false) → Stepped order (settle order r cell) (live js) (settled (length ps) hs)
        go (inl a) =
            let k : r.known ≡ true = known-complete r (covered h pos ∙ a) in
            let j : joined order (r.last + 1) (indexes_of r) (lengths_of r) cell ≡ join order ps = rw (h.index, h.size, h.laid, add-one, h.final k, joined_is order (length ps) hs h.rest a (omega arith), take-length) in
            rw (covered h pos, a) record { stands = refl; gives = ap some j; sized = h.cell_size }
        go (inr a) = rw (covered h pos, a) record { stands = h; gives = refl; sized = h.cell_size }

    piece_live : (i : ℕ) {r : Row} {cell hs : List ℕ} → Holds r cell hs → i < length ps → Stepped order (piece_step order (is_last ps i) i (at i) r cell) (live hs) (add (length ps) i (live hs))
    unfolding piece_step add judge judge_live carry_out newly bundle_if Represents
    piece_live i {r} {cell} {hs} h i< = go (bool (has i hs))
      where
        e₁ : ltb 63 i ≡ false
        e₁ = le-ltb 63 i (omega arith)

        e₂ : contradicts r (is_last ps i) i ≡ false
        e₂ = no_contradiction h i i<

        go : (has i hs ≡ true) ⊎ (has i hs ≡ false) → Stepped order (piece_step order (is_last ps i) i (at i) r cell) (live hs) (add (length ps) i (live hs))
        go (inl e) = rw (e₁, e₂, h.index, e, h.alive) record { stands = h; gives = refl; sized = h.cell_size }
        go (inr e) =
            let sum : sum_of (lengths_of r) ≡ length (octets hs) = ap sum_of h.size ∙ sum_octets hs in
            let e₄ : ltb bundle_max (sum_of (lengths_of r) + length (at i)) ≡ false = le-ltb bundle_max (sum_of (lengths_of r) + length (at i)) (omega (arith, fits h i i< e)) in
            rw (e₁, e₂, e₄, h.index, e, h.alive) (rw sum (settles hs (holds-add h i i< e few small) (omega arith)))

    pub piece-step : (i : ℕ) (r : Row) (cell : List ℕ) (t : Track) → Represents r cell t → length cell ≡ bundle_max → i < length ps → Stepped order (piece_step order (is_last ps i) i (at i) r cell) t (add (length ps) i t)
    unfolding Represents piece_step judge carry_out add newly bundle_if
    piece-step i r cell (live hs) s c i< = piece_live i s i<
    piece-step i r cell whole s c i< = rw s record { stands = refl; gives = refl; sized = c }
    piece-step i r cell stopped s c i< = rw s record { stands = refl; gives = refl; sized = c }

    pub cancel-step : (r : Row) (cell : List ℕ) (t : Track) → Represents r cell t → length cell ≡ bundle_max → Stepped order (cancel_step r cell) t (stop t)
    unfolding Represents cancel_step cancelled stop newly bundle_if
    cancel-step r cell (live hs) s c = rw s.alive record { stands = refl; gives = refl; sized = c }
    cancel-step r cell whole s c = rw s record { stands = refl; gives = refl; sized = c }
    cancel-step r cell stopped s c = rw s record { stands = refl; gives = refl; sized = c }
