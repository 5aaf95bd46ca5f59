-- Every sending call leaves a sound state sound.
--     start-sound, place-sound, cancel-sound, flush-sound
--     cancel_placed     a cancel that is not refused answers Placed
use mathlib.Core.Path.{◌≡◌, refl, sym, ap, ◌∙◌}
use mathlib.Core.Bool.{Bool, true, false, false≢true}
use mathlib.Core.List.{List}
use Prim.Native.Nat.{ℕ, ◌+◌, ◌-◌, ◌≤◌, ◌<◌}
use native.Mathlib.Omega.{arith}
use lib.ListN.{length, take, drop, length-take, length-drop}
use lib.Dec.{eqb}
use borrow.Author.Tests.{eq-eqb, ne_eqb, eqb-false, leb-true, ltb-false, not-false}
use Rattle.octets.proofs.Flags.{cond_elim, both, neither}
use Rattle.wire.specs.declared.Version.{Version}
use Rattle.wire.specs.declared.Version.TheVariants.{Draft00, Draft02}
use Rattle.wire.specs.Message.{Message, bundle, cancel as cancelling, content_length}
use Rattle.writing.specs.Written.{written, piece}
use Rattle.writing.proofs.Written.{length-written, length-piece}
use Rattle.framing.specs.declared.State.{State}
use Rattle.framing.specs.Answers.{placed, Outcome}
use Rattle.framing.specs.Placing.{bundle_max, room, rounded_up, with_fill, ended, numbered, continued, index_in, piece_index, next_index, marks, advanced, added, closed, placing}
use Rattle.framing.proofs.Steps.{index-begun, index-first}
use Rattle.framing.proofs.Ways.{placing-ways}
use Rattle.sender.specs.Answers.{StartReply, made, unless}
use Rattle.sender.specs.Sound.{sized, sound}
use Rattle.sender.specs.Calls.{fresh, start, place_cases, place, cancel_cases, cancel, flush_cases, flush}
use Rattle.sender.proofs.Ways.{Passed, unless-ways}
use Rattle.sender.proofs.Reckoned.{one_less, next-index, few_pieces}
use Rattle.sender.proofs.Facts.{Indexed, falls, rises, Begun, Cleared, in-range, in-transfer, at_rest, same_length, sound-of}

abbrev Sound : Outcome → Type 0
Sound o = sound o.state ≡ true

-- a whole piece of c octets less
piece-less : (l k p n c : ℕ) → k ≡ l → n ≡ c → p + n < k → (l - p ≡ k - (p + n) + c) × (l - p - c ≡ k - (p + n)) × (c < l - p)
piece-less l k p n c e f h = (omega arith, omega arith, omega arith)

-- ---- one message or one padding

cleared_fill : (t : State) (f : ℕ) → Cleared t → Cleared (with_fill t f)
cleared_fill t f c = record { number0 = c.number0; length0 = c.length0; placed0 = c.placed0; index0 = c.index0 }

indexed_fill : {v : Version} (t : State) (f : ℕ) → Indexed t v → Indexed (with_fill t f) v
indexed_fill t f (falls e) = falls e
indexed_fill t f (rises l h) = rises l h

idle : (s : State) → Cleared (ended s)
idle s = record { number0 = refl; length0 = refl; placed0 = refl; index0 = refl }

-- t is the state that is left but for its fill; a message that leaves a transfer begun fills the frame
module _ (t : State) (low : 128 ≤ t.size) (high : t.size ≤ 2048) where
  added-sound : (m : Message) (d : List ℕ) (n : ℕ) → length (written t.version m) ≡ n → t.fill + n ≤ t.size
      → (t.begun ≡ true → (t.fill + n ≡ t.size) × Begun (with_fill t 0)) → (t.begun ≡ false → Cleared t) → Sound (added t m d)
  unfolding added advanced
  added-sound m d n e h f g =
      rw e
      (cond_elim (λ (f : ℕ). sound (with_fill t f) ≡ true) (eqb (t.fill + n) t.size)
      (λ _. sound-of (with_fill t 0) (record { low = low; high = high; filled = omega arith }) (λ b. (f b).1) λ b. cleared_fill t 0 (g b))
      λ k. let o : t.fill + n ≡ t.size → ⊥ = eqb-false _ _ k in
      sound-of (with_fill t (t.fill + n)) (record { low = low; high = high; filled = omega arith }) (λ b. absurd (o (f b).0))
      λ b. cleared_fill t (t.fill + n) (g b))

module _ (s : State) (ok : sound s ≡ true) (d : List ℕ) where
  closed-sound : Sound (closed s d)
  unfolding closed
  closed-sound =
      let r = in-range s ok in
      sound-of (with_fill s 0) (record { low = r.low; high = r.high; filled = omega arith })
      (λ b. let f = in-transfer s ok b in
      let k = f.counted in
      record { counted = record { empty = refl; long = k.long; fits = k.fits; some = k.some; more = k.more }; indexes = indexed_fill s 0 f.indexes })
      λ b. cleared_fill s 0 (at_rest s ok b)

  -- a message that leaves nothing begun
  ended-sound : (t : State) (m : Message) (n : ℕ) → t.size ≡ s.size → t.fill ≡ s.fill → length (written t.version m) ≡ n → s.fill + n ≤ s.size
      → t.begun ≡ false → Cleared t → Sound (added t m d)
  ended-sound t m n p q e h b c =
      let r = in-range s ok in
      added-sound t (omega arith) (omega arith) m d n e (omega arith) (λ y. absurd (false≢true (sym b ∙ y))) (λ _. c)

  module _ (b : List ℕ) (some : 1 ≤ length b) (fits : length b ≤ bundle_max) (same : s.begun ≡ true → length b ≡ s.length) where
    whole-sound : length b + 4 ≤ s.size → length b + 4 ≤ room s → Sound (added s (bundle b) d)
    unfolding content_length
    whole-sound h k =
        let r = in-range s ok in
        added-sound s r.low r.high (bundle b) d (4 + length b) (length-written s.version (bundle b)) (omega arith)
        (λ y. absurd (let f = (in-transfer s ok y).counted in let g = same y in omega arith)) (at_rest s ok)

    -- the index behind the next piece
    next-indexed : (v : Version) (y : Bool) → s.begun ≡ y → (s.begun ≡ true → Indexed s v) → (n : ℕ) → n ≡ room s - 12 → 13 ≤ room s → s.placed + n < length b
        → Indexed (with_fill (continued (numbered s) (length b) n (next_index v (index_in v s (length b)))) 0) v
    next-indexed v true e f n k h l = rw (index-begun v s (length b) e) (go (f e))
      where
        go : {u : Version} → Indexed s u → Indexed (with_fill (continued (numbered s) (length b) n (next_index u s.index)) 0) u
        go (falls q) =
            let r = in-range s ok in
            let u = (in-transfer s ok e).counted in
            let c : n ≡ s.size - 12 = omega arith in
            let z = piece-less s.length (length b) s.placed n (s.size - 12) (same e) c l in
            falls (ap (λ (j : ℕ). j - 1) q ∙ sym (rw z.1 at (next-index (s.length - s.placed) (s.size - 12) (omega arith) z.2).1))
        go (rises p q) =
            let r = in-range s ok in
            let u = (in-transfer s ok e).counted in
            let c : n ≡ s.size - 12 = omega arith in
            let z = piece-less s.length (length b) s.placed n (s.size - 12) (same e) c l in
            let y = one_less (s.length - s.placed) (length b - (s.placed + n)) (s.size - 12) (omega arith) z.0 in
            rises (omega arith) (omega arith)
    next-indexed Draft00 false e f n k h l =
        let c = at_rest s ok e in
        let z : length b - (room s - 12) ≡ length b - (s.placed + n) = omega arith in
        falls (ap (λ (j : ℕ). j - 1) (index-first s (length b) e ∙ ap (λ (j : ℕ). rounded_up j (s.size - 12)) z))
    next-indexed Draft02 false e f n k h l =
        let r = in-range s ok in
        let c = at_rest s ok e in
        let m = few_pieces (length b - (s.placed + n)) (s.size - 12) (omega arith) (omega arith) in
        rises (omega arith) (omega arith)

    more-sound : (n i : ℕ) (k : Bool) → n ≡ room s - 12 → s.size < length b + 4 → 13 ≤ room s → n < length (drop s.placed b)
        → Sound (added (continued (numbered s) (length b) n (next_index s.version (piece_index s (length b)))) (piece k (numbered s).number i (take n (drop s.placed b))) d)
    more-sound n i k e h g l =
        let r = in-range s ok in
        let x : List ℕ = take n (drop s.placed b) in
        let y : length (drop s.placed b) ≡ length b - s.placed = length-drop s.placed b in
        let w : length x ≡ n = rw length-take (omega arith) in
        let t : State = continued (numbered s) (length b) n (next_index s.version (piece_index s (length b))) in
        added-sound t r.low r.high (piece k (numbered s).number i x) d (12 + n) (rw w at (length-piece s.version k (numbered s).number i x)) (omega arith)
        (λ _. (
          omega arith,
          record {
            counted = record { empty = refl; long = omega arith; fits = fits; some = omega arith; more = omega arith };
            indexes = next-indexed s.version s.begun refl (λ z. (in-transfer s ok z).indexes) n e g (omega arith);
          },
        ))
        λ z. absurd (false≢true (sym z))

    placing-sound : Sound (placing s b d)
    placing-sound =
        let r = in-range s ok in
        placing-ways Sound s d b whole-sound closed-sound
        (λ h k l. let j = marks s.version s.begun true in
        let i = piece_index s (length b) in
        ended-sound (ended (numbered s)) (piece j (numbered s).number i (drop s.placed b)) (12 + length (drop s.placed b)) refl refl
        (length-piece s.version j (numbered s).number i (drop s.placed b)) (omega arith) refl (idle (numbered s)))
        (more-sound (room s - 12) _ _ refl)

-- ---- the calls

fresh-sound : (v : Version) (p n : ℕ) → sized p ≡ true → sound (fresh v p n) ≡ true
fresh-sound v p n e =
    let (l, h) = both _ _ e in
    let low : 128 ≤ p = leb-true _ _ l in
    sound-of (fresh v p n) (record { low = low; high = leb-true _ _ h; filled = omega arith }) (λ y. absurd (false≢true y)) λ _. idle (fresh v p n)

pub start-sound : (v : Version) (p n : ℕ) (s : State) → start v p n ≡ made s → sound s ≡ true
unfolding start
start-sound v p n s =
    cond_elim (λ (r : StartReply). r ≡ made s → sound s ≡ true) (sized p)
    (λ e g. let same : fresh v p n ≡ s = cc in rw same at (fresh-sound v p n e))
    λ e g. absurd (let z : ◌≡◌ {A = ℕ} 0 1 = cc in omega arith)

pub place-sound : (s : State) (b d : List ℕ) → sound s ≡ true → Sound (place s b d)
unfolding place place_cases Passed
place-sound s b d ok =
    unless-ways Sound s d (place_cases s b d) (placing s b d) (λ _. ok)
    λ p. let (z, h) = neither _ _ p.1.1.0 in
    let o : length b ≡ 0 → ⊥ = eqb-false _ _ z in
    placing-sound s ok d b (omega arith) (ltb-false _ _ h) (same_length s.begun (length b) s.length p.1.1.1.0)

pub cancel-sound : (s : State) (d : List ℕ) → sound s ≡ true → Sound (cancel s d)
unfolding cancel cancel_cases Passed content_length
cancel-sound s d ok =
    unless-ways Sound s d (cancel_cases s d) (added (ended s) (cancelling s.number) d) (λ _. ok)
    λ p. let r = in-range s ok in
    let f = (in-transfer s ok (not-false _ p.1.1.0)).counted in
    ended-sound s ok d (ended s) (cancelling s.number) 8 refl refl (length-written s.version (cancelling s.number)) (omega arith) refl (idle s)

pub flush-sound : (s : State) (d : List ℕ) → sound s ≡ true → Sound (flush s d)
unfolding flush
flush-sound s d ok =
    unless-ways Sound s d (flush_cases s d) _ (λ _. ok) λ _. cond_elim Sound (eqb s.fill 0) (λ _. ok) λ _. closed-sound s ok d

pub cancel_placed : (s : State) (d : List ℕ) → sound s ≡ true → length d ≡ s.size → s.begun ≡ true → (cancel s d).answer ≡ placed
unfolding cancel cancel_cases unless added advanced content_length
cancel_placed s d ok e b =
    let r = in-range s ok in
    let f = (in-transfer s ok b).counted in
    rw (ok, eq-eqb _ _ e, b, length-written s.version (cancelling s.number), ne_eqb (s.fill + 8) s.size (λ y. omega arith))
