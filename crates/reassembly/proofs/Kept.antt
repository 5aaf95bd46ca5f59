-- What a segment, an end or a cancel keeps: a sound row stays sound, lengths stay, and a bundle that is handed out fits.
use mathlib.Core.Path.{◌≡◌, refl, ap, ◌∙◌}
use mathlib.Core.Bool.{Bool, true, false, cond, not, ◌&&◌, ◌||◌, beq}
use mathlib.Core.Option.{Option, none, some}
use mathlib.Core.List.{List, [], ◌∷◌, ◌++◌}
use Prim.Native.Nat.{ℕ, ◌+◌, ◌≤◌, ◌<◌}
use native.Mathlib.Numerals.{add-one}
use native.Mathlib.Omega.{arith}
use lib.ListN.{length, drop, set, length-set}
use lib.Seq.{take-suc-set}
use lib.Dec.{eqb, ltb, leb}
use borrow.Author.Tests.{eq-eqb, ltb-false, le-leb}
use Rattle.octets.specs.Octets.{put, sum_of}
use Rattle.octets.proofs.Flags.{and, neither, cond_elim}
use Rattle.octets.proofs.Put.{length-put}
use Rattle.pieces.specs.declared.Order.{Order}
use Rattle.pieces.specs.Pieces.{bundle_max, has, has_above, has_all, distinct, is_zeros, low_and_distinct, zero_from}
use Rattle.pieces.proofs.Appending.{sum-snoc, has_last, has_more, above-snoc, distinct_snoc, zeros-after}
use Rattle.pieces.proofs.Joining.{joined-fits}
use Rattle.row.specs.declared.Row.{Row}
use Rattle.row.specs.declared.Verdict.{Verdict}
use Rattle.row.specs.declared.Phase.{Phase}
use Rattle.row.specs.declared.Phase.TheVariants.{Done, Cancelled, Abandoned}
use Rattle.row.specs.Row.{indexes_of, lengths_of, empty_row, is_live, contradiction, contradicts, sound_last, sound_pieces, sound_open, sound_row}
use Rattle.row.proofs.Shaped.{Shaped, empty_shaped}
use Rattle.row.proofs.Sound.{Sound, sound_facts, room, empty-sound}
use Rattle.row.proofs.Judging.{Accepted, judged}
use Rattle.reassembly.specs.Rules.{cancelled, last_after, with_piece, complete, bundle_of, Outcome, silent, settle, carry_out, piece_step}

-- a row whose pieces can be joined
pub record Joinable (r : Row) : Type 0 where
  pub few : r.held ≤ 64
  pub last : r.last < 64
  pub fits : sum_of (lengths_of r) ≤ bundle_max

-- ---- the final index with one piece more

all-of-last : (last : ℕ) (is : List ℕ) → has last is ≡ true → has_above last is ≡ false → has_all (last + 1) is ≡ false → (has last is && not (has_above last is) && not (has_all (last + 1) is)) ≡ true
all-of-last last is h a c = rw (h, a, c)

last-after : (known : Bool) (last : ℕ) (is : List ℕ) (held : Bool) (i : ℕ) (ending : Bool)
    → (known ≡ true → (has last is ≡ true) × (has_above last is ≡ false)) → (known ≡ false → last ≡ 0)
    → contradiction known last held (has_above i is) i ending ≡ false → ((known || ending) && has_all (last_after last i ending + 1) (is ++ i ∷ [])) ≡ false
    → sound_last (known || ending) (last_after last i ending) (is ++ i ∷ []) ≡ true
unfolding sound_last
last-after true last is held i true k u c a =
    let b = (neither ((ltb last i || not (eqb i last)) || has_above i is) (held && not (beq true (eqb last i))) c).0 in
    let d = (neither (ltb last i || not (eqb i last)) (has_above i is) b).1 in
    all-of-last i (is ++ i ∷ []) (has_last i is) (above-snoc i i is d (omega arith)) a
last-after true last is held i false k u c a =
    let b = (neither (((ltb last i || false) || false)) (held && not (beq false (eqb last i))) c).0 in
    let d : i ≤ last = ltb-false last i (neither (ltb last i) false (neither (ltb last i || false) false b).0).0 in
    all-of-last last (is ++ i ∷ []) (has_more last i is (k refl).0) (above-snoc last i is (k refl).1 d) a
last-after false last is held i true k u c a =
    let d = (neither (has_above i is) (held && true) c).0 in
    all-of-last i (is ++ i ∷ []) (has_last i is) (above-snoc i i is d (omega arith)) a
last-after false last is held i false k u c a = eq-eqb last 0 (u refl)

-- the octets of a bundle, and those that a row holds
unfoldable pub bundle_size : Option (List ℕ) → ℕ
bundle_size none = 0
bundle_size (some b) = length b

abbrev pub weight : Row → ℕ
weight r = sum_of (lengths_of r)

pub empty_weight : (p : Phase) → weight (empty_row p) ≡ 0
unfolding lengths_of sum_of
empty_weight p = refl

-- ---- a row with one piece more

module _ (r : Row) (ending : Bool) (i n : ℕ) (S : Sound r) (Z : Shaped r) (A : Accepted r ending i n) where
  space : r.held < 64
  space = room r i S Z.indexes64 A.low A.new

  indexes_after : indexes_of (with_piece r ending i n) ≡ indexes_of r ++ i ∷ []
  unfolding indexes_of with_piece
  indexes_after = rw add-one (take-suc-set r.indexes r.held i (omega (arith, space, Z.indexes64)))

  lengths_after : lengths_of (with_piece r ending i n) ≡ lengths_of r ++ n ∷ []
  unfolding lengths_of with_piece
  lengths_after = rw add-one (take-suc-set r.lengths r.held n (omega (arith, space, Z.lengths64)))

  weight_after : weight (with_piece r ending i n) ≡ weight r + n
  weight_after = rw (lengths_after, sum-snoc)

  pub joinable : Joinable (with_piece r ending i n)
  unfolding with_piece
  joinable =
      record {
        few = omega (arith, space);
        last = cond_elim (λ (k : ℕ). k < 64) ending (λ e. omega (arith, A.low)) (λ e. omega (arith, S.last));
        fits = rw (lengths_after, sum-snoc) A.fits;
      }

  pieces_after : sound_pieces (with_piece r ending i n) ≡ true
  unfolding sound_pieces low_and_distinct zero_from with_piece
  pieces_after =
      let is : List ℕ = indexes_of r ++ i ∷ [] in
      and (low_and_distinct (indexes_of (with_piece r ending i n))) _
      (rw indexes_after (and (distinct is) (not (has_above 63 is)) (distinct_snoc i (indexes_of r) S.apart A.new) (ap not (above-snoc 63 i (indexes_of r) S.low A.low))))
      (and (leb (sum_of (lengths_of (with_piece r ending i n))) bundle_max) _
      (le-leb (sum_of (lengths_of (with_piece r ending i n))) bundle_max joinable.fits)
      (and (is_zeros (drop (r.held + 1) (set r.indexes r.held i))) _ (zeros-after r.held r.indexes i S.zero₁) (zeros-after r.held r.lengths n S.zero₂)))

  final_after : complete (with_piece r ending i n) ≡ false → sound_last (r.known || ending) (last_after r.last i ending) (indexes_of (with_piece r ending i n)) ≡ true
  unfolding complete contradicts with_piece
  final_after lacks =
      rw indexes_after
      (last-after r.known r.last (indexes_of r) (has i (indexes_of r)) i ending S.known S.unknown A.agrees (rw indexes_after at lacks))

  sound-new : complete (with_piece r ending i n) ≡ false → sound_row (with_piece r ending i n) ≡ true
  unfolding sound_row sound_open with_piece
  sound-new lacks =
      and (leb 1 (r.held + 1) && leb (r.held + 1) 64 && sound_pieces (with_piece r ending i n)) _
      (and (leb 1 (r.held + 1) && leb (r.held + 1) 64) (sound_pieces (with_piece r ending i n))
      (and (leb 1 (r.held + 1)) _ (le-leb 1 (r.held + 1) (omega arith)) (le-leb (r.held + 1) 64 (omega (arith, space))))
      pieces_after)
      (final_after lacks)

-- ---- a cancel

pub cancel-sound : (r : Row) → sound_row r ≡ true → sound_row (cancelled r) ≡ true
unfolding cancelled
cancel-sound r s = cond_elim (λ (q : Row). sound_row q ≡ true) (is_live r.phase) (λ e. empty-sound Cancelled refl) (λ e. s)

pub cancel_shaped : (r : Row) → Shaped r → Shaped (cancelled r)
unfolding cancelled
cancel_shaped r z = cond_elim Shaped (is_live r.phase) (λ e. empty_shaped Cancelled) (λ e. z)

-- ---- a segment or an end

module _ (order : Order) (ending : Bool) (i : ℕ) (d : List ℕ) (r : Row) (cell : List ℕ) where
  by-verdict : (P : Outcome → Type 0) → P (silent (empty_row Abandoned) cell) → P (silent r cell)
      → (Accepted r ending i (length d) → P (settle order (with_piece r ending i (length d)) (put cell (sum_of (lengths_of r)) d)))
      → P (piece_step order ending i d r cell)
  unfolding piece_step carry_out
  by-verdict P = judged r ending i (length d) (λ (v : Verdict). P (carry_out order v ending i d r cell))

  pub piece-sound : sound_row r ≡ true → Shaped r → sound_row (piece_step order ending i d r cell).row ≡ true
  unfolding settle
  piece-sound s z =
      by-verdict (λ (o : Outcome). sound_row o.row ≡ true) (empty-sound Abandoned refl) s
      (λ a. cond_elim (λ (q : Row). sound_row q ≡ true) (complete (with_piece r ending i (length d))) (λ c. empty-sound Done refl) (sound-new r ending i (length d) (sound_facts r s) z a))

  pub piece-shaped : Shaped r → Shaped (piece_step order ending i d r cell).row
  unfolding settle with_piece
  piece-shaped z =
      by-verdict (λ (o : Outcome). Shaped o.row) (empty_shaped Abandoned) z
      (λ a. cond_elim Shaped (complete (with_piece r ending i (length d))) (λ c. empty_shaped Done) (λ c. record { indexes64 = simp length-set z.indexes64; lengths64 = simp length-set z.lengths64 }))

  pub piece-cell : length cell ≡ bundle_max → length (piece_step order ending i d r cell).cell ≡ bundle_max
  unfolding settle
  piece-cell l = by-verdict (λ (o : Outcome). length o.cell ≡ bundle_max) l l (λ a. length-put cell (sum_of (lengths_of r)) d (omega (arith, a.fits)) ∙ l)

  pub piece-bundle-fits : (b : List ℕ) → sound_row r ≡ true → Shaped r → length cell ≡ bundle_max → (piece_step order ending i d r cell).bundle ≡ some b → length b ≤ bundle_max
  unfolding settle bundle_of
  piece-bundle-fits b s z l =
      by-verdict (λ (o : Outcome). o.bundle ≡ some b → length b ≤ bundle_max) nothing nothing
      (λ a.
      let q : Row = with_piece r ending i (length d) in
      let fits = (joinable r ending i (length d) (sound_facts r s) z a).fits in
      let room = length-put cell (sum_of (lengths_of r)) d (omega (arith, a.fits)) in
      cond_elim (λ (o : Option (List ℕ)). o ≡ some b → length b ≤ bundle_max) (complete q)
      (λ c e. let same : bundle_of order q (put cell (sum_of (lengths_of r)) d) ≡ b = cc in omega (arith, ap length same, joined-fits (indexes_of q) (lengths_of q) (put cell (sum_of (lengths_of r)) d) (omega arith) order (q.last + 1)))
      (λ c. nothing))
    where
      nothing : none ≡ some b → length b ≤ bundle_max
      nothing e = let z : ◌≡◌ {A = ℕ} 0 1 = cc in absurd (omega arith)

  -- what a row holds and what it hands out was held before, or came with the piece
  pub piece-weight : sound_row r ≡ true → Shaped r → length cell ≡ bundle_max
      → weight (piece_step order ending i d r cell).row + bundle_size (piece_step order ending i d r cell).bundle ≤ weight r + length d
  unfolding settle bundle_of bundle_size
  piece-weight s z l =
      by-verdict (λ (o : Outcome). weight o.row + bundle_size o.bundle ≤ weight r + length d) (omega (arith, empty_weight Abandoned)) (omega arith)
      (λ a.
      let q : Row = with_piece r ending i (length d) in
      let after : weight q ≡ weight r + length d = weight_after r ending i (length d) (sound_facts r s) z a in
      let room = length-put cell (sum_of (lengths_of r)) d (omega (arith, a.fits)) in
      let fits : length (bundle_of order q (put cell (sum_of (lengths_of r)) d)) ≤ weight q = joined-fits (indexes_of q) (lengths_of q) (put cell (sum_of (lengths_of r)) d) (omega (arith, a.fits)) order (q.last + 1) in
      completed (complete q) q (bundle_of order q (put cell (sum_of (lengths_of r)) d)) (weight r + length d) (omega arith) (omega arith))
    where
      completed : (c : Bool) (q : Row) (b : List ℕ) (n : ℕ) → weight q ≤ n → length b ≤ n → weight (cond c (empty_row Done) q) + bundle_size (cond c (some b) none) ≤ n
      completed true q b n h k = omega (arith, empty_weight Done)
      completed false q b n h k = omega arith
