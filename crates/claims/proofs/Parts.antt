-- The pieces of a sender, by the draft: what the row of a transfer begun holds, where its sender stands, and what the next piece does to it.
use mathlib.Core.Path.{◌≡◌, refl, sym, ◌∙◌}
use mathlib.Core.Bool.{Bool, true, false}
use mathlib.Core.List.{List, [], ◌∷◌, ◌++◌, map, map-append}
use Prim.Native.Nat.{ℕ, suc, ◌+◌, ◌-◌, ◌≤◌, ◌<◌}
use native.Mathlib.Omega.{arith}
use lib.ListN.{length, take, drop, length-append, length-drop, take-append-drop}
use lib.Seq.{take-add, length-take-le}
use lib.Dec.{eqb}
use borrow.Author.Tests.{eq-eqb, ne_eqb}
use Rattle.wire.specs.declared.Version.{Version}
use Rattle.wire.specs.declared.Version.TheVariants.{Draft00, Draft02}
use Rattle.octets.specs.Octets.{sum_of}
use Rattle.pieces.specs.declared.Order.TheVariants.{Rising, Falling}
use Rattle.pieces.specs.Pieces.{bundle_max}
use Rattle.row.specs.declared.Row.{Row}
use Rattle.rows.specs.Message.{order_of}
use Rattle.framing.specs.declared.State.{State}
use Rattle.framing.specs.Placing.{room, rounded_up, index_in, piece_index, next_index, marks}
use Rattle.framing.proofs.Steps.{index-begun, index-first}
use Rattle.sender.specs.Sound.{sound}
use Rattle.sender.proofs.Reckoned.{some_left, last-index, next-index, one_less, few_pieces}
use Rattle.sender.proofs.Facts as Facts
use Rattle.sender.proofs.Facts.{Indexed, in-range, in-transfer, at_rest, index-few}
use Rattle.claims.specs.Demand3.{join}
use Rattle.claims.proofs.Pieces.{join-rising, sum-append}
use Rattle.claims.proofs.Carries.{Opening, Continuing, Ending}
use Rattle.claims.proofs.InOrder.{InOrder, in_order_none, continued, ended}
use Rattle.claims.proofs.Falling.{InFalling, in-falling-none, falls-on, falls-to-end}

-- the pieces sent so far, by index: from 0 on, or the highest of n
pub data Parts : Type 0 where
  first : List (List ℕ) → Parts
  highest : ℕ → List (List ℕ) → Parts

unfoldable pub In : Parts → Row → List ℕ → Type 0
In (first ps) r cell = InOrder ps r cell
In (highest n ps) r cell = InFalling n ps r cell

-- With p octets of b placed and next index i.
pub data At : Version → ℕ → ℕ → List ℕ → Parts → Type 0 where
  rising : {p i : ℕ} {b : List ℕ} (ps : List (List ℕ)) → length ps ≡ i → join Rising ps ≡ take p b → sum_of (map length ps) ≡ p → At Draft02 p i b (first ps)
  falling : {p i : ℕ} {b : List ℕ} (n : ℕ) (ps : List (List ℕ)) → 1 ≤ length ps → suc (length ps + i) ≡ n → n ≤ 64 → join Falling ps ≡ take p b → sum_of (map length ps) ≡ p
      → At Draft00 p i b (highest n ps)

sum-snoc : (ps : List (List ℕ)) (x : List ℕ) → sum_of (map length (ps ++ x ∷ [])) ≡ sum_of (map length ps) + length x
unfolding sum_of
sum-snoc ps x = rw (map-append length ps (x ∷ []), sum-append) (omega arith)

sum-cons : (ps : List (List ℕ)) (x : List ℕ) → sum_of (map length (x ∷ ps)) ≡ sum_of (map length ps) + length x
unfolding sum_of
sum-cons ps x = omega arith

-- A piece of index i, with the octets from p on of the bundle a; m and c are its length and that of a whole piece.
module _ (a : List ℕ) (p m : ℕ) (within : p + m ≤ length a) (small : length a ≤ bundle_max) where
  abbrev x : List ℕ
  x = take m (drop p a)

  len : length x ≡ m
  len = length-take-le m (drop p a) (omega (arith, length-drop p a))

  rising-on : (ps : List (List ℕ)) (i : ℕ) → length ps ≡ i → i < 63 → join Rising ps ≡ take p a → sum_of (map length ps) ≡ p
      → Continuing In Rising false i x (first ps) (first (ps ++ x ∷ [])) × At Draft02 (p + m) (i + 1) a (first (ps ++ x ∷ []))
  unfolding In
  rising-on ps i l few j s =
      let sum : sum_of (map length (ps ++ x ∷ [])) ≡ p + m = sum-snoc ps x ∙ rw (s, len) in
      let count : length (ps ++ x ∷ []) ≡ i + 1 = length-append ps (x ∷ []) ∙ rw l in
      let octets : join Rising (ps ++ x ∷ []) ≡ take (p + m) a = join-rising ps x ∙ rw j (sym (take-add p m a)) in (
        λ r cell h full. rw l at (continued ps x r cell h full (omega arith) (omega arith)),
        rising (ps ++ x ∷ []) count octets sum,
      )

  falling-on : (n i : ℕ) (ps : List (List ℕ)) (marked : Bool) → suc (length ps + i) ≡ n → n ≤ 64 → 1 ≤ i → marked ≡ eqb (i + 1) n → join Falling ps ≡ take p a → sum_of (map length ps) ≡ p
      → Continuing In Falling marked i x (highest n ps) (highest n (x ∷ ps)) × At Draft00 (p + m) (i - 1) a (highest n (x ∷ ps))
  unfolding In join
  falling-on n i ps marked e few some k j s =
      let sum : sum_of (map length (x ∷ ps)) ≡ p + m = sum-cons ps x ∙ rw (s, len) in
      let at : n - suc (length ps) ≡ i = omega arith in
      let count : suc (length (x ∷ ps) + (i - 1)) ≡ n = omega arith in
      let octets : join Falling ps ++ x ≡ take (p + m) a = rw j (sym (take-add p m a)) in (
        λ r cell h full. rw k (rw at at (falls-on n ps x r cell h full (omega arith) few (omega arith))),
        falling n (x ∷ ps) (omega arith) count few octets sum,
      )

-- ---- the next piece of a sender in a sound state

-- two pieces are left
two-left : (i m c : ℕ) → 1 ≤ c → i + rounded_up m c ≤ 64 → c < m → i < 63
two-left i m c l few h =
    let e = one_less m (m - c) c l (omega arith) in
    let q = some_left (m - c) c l (omega arith) in
    omega arith

module _ (s : State) (ok : sound s ≡ true) (a : List ℕ) (small : length a ≤ bundle_max) (same : s.begun ≡ true → length a ≡ s.length) where
  abbrev n : ℕ
  n = room s - 12

  abbrev next : List ℕ
  next = take n (drop s.placed a)

  -- a first piece
  opened : (v : Version) → s.begun ≡ false → 13 ≤ room s → s.placed + n < length a
      → (q : Parts) × Opening In (order_of v) (marks v false false) (index_in v s (length a)) next q × At v (s.placed + n) (next_index v (index_in v s (length a))) a q
  unfolding In join sum_of
  opened Draft02 e h l =
      let z = at_rest s ok e in
      let none : [] ≡ take s.placed a = rw z.placed0 in
      let (go, at) = rising-on a s.placed n (omega arith) small [] s.index (sym z.index0) (omega arith) none (sym z.placed0) in
      (first (next ∷ []), λ cell full. go _ cell (in_order_none cell full) full, at)
  opened Draft00 e h l =
      let r = in-range s ok in
      let z = at_rest s ok e in
      let none : [] ≡ take s.placed a = rw z.placed0 in
      let i = index-first s (length a) e in
      let some = some_left (length a - n) (s.size - 12) (omega arith) (omega arith) in
      let few = few_pieces (length a - n) (s.size - 12) (omega arith) (omega arith) in
      let k : ℕ = index_in Draft00 s (length a) in
      let (go, at) = falling-on a s.placed n (omega arith) small (suc k) k [] true (omega arith) (omega arith) (omega arith) (sym (eq-eqb (k + 1) (suc k) (omega arith))) none (sym z.placed0) in
      (highest (suc k) (next ∷ []), λ cell full. go _ cell (in-falling-none (suc k) cell full) full, at)

  -- a further piece, behind which others come
  moves : (v : Version) (q : Parts) → s.begun ≡ true → Indexed s v → s.placed + n < length a → At v s.placed s.index a q
      → (q' : Parts) × Continuing In (order_of v) (marks v true false) s.index next q q' × At v (s.placed + n) (next_index v s.index) a q'
  moves Draft02 q e (Facts.rises l f) h (rising ps g j t) =
      let r = in-range s ok in
      let u = (in-transfer s ok e).counted in
      let b = same e in
      let (go, at) = rising-on a s.placed n (omega arith) small ps s.index g (two-left s.index (s.length - s.placed) (s.size - 12) (omega arith) f (omega arith)) j t in
      (first (ps ++ next ∷ []), go, at)
  moves Draft00 q e (Facts.falls f) h (falling k ps some g few j t) =
      let r = in-range s ok in
      let u = (in-transfer s ok e).counted in
      let b = same e in
      let more = (next-index (s.length - s.placed) (s.size - 12) (omega arith) (omega arith)).0 in
      let (go, at) = falling-on a s.placed n (omega arith) small k s.index ps false g few (omega arith) (sym (ne_eqb (s.index + 1) k (omega arith))) j t in
      (highest k (next ∷ ps), go, at)

  -- the last piece
  ending : (v : Version) (q : Parts) → s.begun ≡ true → Indexed s v → length a - s.placed ≤ n → At v s.placed s.index a q
      → Ending In (order_of v) (marks v true true) s.index (drop s.placed a) q a
  unfolding In join
  ending Draft02 q e i h (rising ps g j t) r cell held full =
      let u = (in-transfer s ok e).counted in
      let b = same e in
      let few = index-few i (in-range s ok) u in
      let sum : sum_of (map length (ps ++ drop s.placed a ∷ [])) ≤ bundle_max = rw (sum-snoc ps (drop s.placed a), length-drop s.placed a) (omega arith) in
      let all : join Rising (ps ++ drop s.placed a ∷ []) ≡ a = join-rising ps (drop s.placed a) ∙ rw (j, take-append-drop s.placed a) in
      rw (g, all) at (ended ps (drop s.placed a) r cell held full (omega arith) sum)
  ending Draft00 q e (Facts.falls f) h (falling k ps some g few j t) r cell held full =
      let u = (in-transfer s ok e).counted in
      let b = same e in
      let z = in-range s ok in
      let last = last-index (s.length - s.placed) (s.size - 12) (omega arith) (omega arith) (omega arith) in
      let sum : sum_of (map length (drop s.placed a ∷ ps)) ≤ bundle_max = rw (sum-cons ps (drop s.placed a), length-drop s.placed a) (omega arith) in
      let all : join Falling ps ++ drop s.placed a ≡ a = rw (j, take-append-drop s.placed a) in
      let at : k - suc (length ps) ≡ s.index = omega arith in
      rw (at, ne_eqb (s.index + 1) k (omega arith), all) at (falls-to-end k ps (drop s.placed a) r cell held full (omega arith) few sum)

  -- ---- as the sender writes it

  abbrev v : Version
  v = s.version

  index-small : (u : Version) (y : Bool) → s.begun ≡ y → 13 ≤ room s → 1 ≤ length a → index_in u s (length a) ≤ 63
  index-small u true e h l = rw (index-begun u s (length a) e) (let f = in-transfer s ok e in index-few f.indexes (in-range s ok) f.counted)
  index-small Draft00 false e h l = let r = in-range s ok in rw (index-first s (length a) e) (few_pieces (length a - n) (s.size - 12) (omega arith) (omega arith))
  index-small Draft02 false e h l = let z = at_rest s ok e in omega arith

  pub piece-small : 13 ≤ room s → 1 ≤ length a → piece_index s (length a) ≤ 63
  piece-small = index-small v s.begun refl

  pub piece-opens : (y : Bool) → s.begun ≡ y → y ≡ false → 13 ≤ room s → s.placed + n < length a
      → (q : Parts) × Opening In (order_of v) (marks v y false) (piece_index s (length a)) next q × At v (s.placed + n) (next_index v (piece_index s (length a))) a q
  piece-opens y e f h l = rw f (opened v (e ∙ f) h l)

  pub piece-continues : (y : Bool) (i : ℕ) → s.begun ≡ y → y ≡ true → i ≡ s.index → s.placed + n < length a → (q : Parts) → At v s.placed s.index a q
      → (q' : Parts) × Continuing In (order_of v) (marks v y false) i next q q' × At v (s.placed + n) (next_index v i) a q'
  piece-continues y i e f j h q l = rw (f, j) (moves v q (e ∙ f) (in-transfer s ok (e ∙ f)).indexes h l)

  pub piece-ends : (y : Bool) (i : ℕ) → s.begun ≡ y → y ≡ true → i ≡ s.index → length a - s.placed ≤ n → (q : Parts) → At v s.placed s.index a q
      → Ending In (order_of v) (marks v y true) i (drop s.placed a) q a
  piece-ends y i e f j h q l = rw (f, j) (ending v q (e ∙ f) (in-transfer s ok (e ∙ f)).indexes h l)
