-- Laws of one message or one padding, as the code reaches them.
--     loose        a room that does not close the frame has place for an octet of a piece
--     is-added     a message
--     last-piece, next-piece     a piece with all that remains, one with less
--     index-begun, index-first     the index of the next piece
use Rattle.std.proofs.Common.{◌≡◌, ℕ, ◌+◌, ◌-◌, ◌<◌, ◌≤◌, Bool, true, false, cond, List, length, take, drop, refl, ap, ◌∙◌, arith, length-take, ltb-false, le-leb, Ok}
use borrow.Author.Tests.{lt-leb}
use Rattle.octets.specs.Octets.{put}
use Rattle.wire.specs.declared.Version.{Version}
use Rattle.wire.specs.declared.Version.TheVariants.{Draft00, Draft02}
use Rattle.wire.specs.Message.{Message}
use Rattle.writing.specs.Written.{written, piece}
use Rattle.writing.proofs.Written.{length-piece}
use Rattle.framing.specs.declared.State.{State}
use Rattle.framing.specs.declared.Answer.{Answer}
use Rattle.framing.specs.Answers.{outcome}
use Rattle.framing.specs.Placing.{room, tight, ended, numbered, continued, rounded_up, index_in, piece_index, next_index, marks, advanced, added, place_piece}

pub loose : (r : ℕ) → tight r ≡ false → 13 ≤ r
loose r e = ltb-false r 13 e

-- r and z are what `advanced` answered and left for a message m, and d' the frame that it was written to
pub is-added : (s t z : State) (r : Answer) (n : ℕ) (m : Message) (d d' : List ℕ) → s ≡ t → ((x : List ℕ) → outcome (Ok r) z x ≡ advanced s n x)
    → n ≡ length (written t.version m) → d' ≡ put d t.fill (written t.version m) → outcome (Ok r) z d' ≡ added t m d
unfolding added
is-added s t z r n m d d' e f g h = f d' ∙ rw (h, g, e)

-- what remains of the bundle; t is the state with its number, i the piece's index, k whether it is marked, u the state that is left but for its fill
module _ (s : State) (b d d' rest : List ℕ) (t u z : State) (i : ℕ) (k : Bool) (r : Answer) (cut : rest ≡ drop s.placed b) (e : t ≡ numbered s)
    (at : i ≡ piece_index s (length b)) where
  abbrev v : Version
  v = s.version

  pub last-piece : ((x : List ℕ) → outcome (Ok r) z x ≡ advanced u (length rest + 12) x) → length rest ≤ room s - 12 → k ≡ marks v s.begun true → u ≡ ended t
      → d' ≡ put d s.fill (written v (piece k t.number i rest)) → outcome (Ok r) z d' ≡ place_piece s b d
  unfolding place_piece
  last-piece f h marked g p =
      rw (← cut, le-leb (length rest) (room s - 12) h, ← at, ← marked)
      (is-added u (ended (numbered s)) z r (length rest + 12) (piece k (numbered s).number i rest) d d' (rw (g, e)) f
      (rw (length-piece v k (numbered s).number i rest) (omega arith)) (p ∙ rw e))

  pub next-piece : (n j : ℕ) → ((x : List ℕ) → outcome (Ok r) z x ≡ advanced u (n + 12) x) → n ≡ room s - 12 → n < length rest → k ≡ marks v s.begun false
      → j ≡ next_index v i → u ≡ continued t (length b) n j → d' ≡ put d s.fill (written v (piece k t.number i (take n rest))) → outcome (Ok r) z d' ≡ place_piece s b d
  unfolding place_piece
  next-piece n j f l h marked next g p =
      let y : length (take n rest) ≡ n = rw (length-take) (omega arith) in
      rw (← cut, ← l, lt-leb (length rest) n h, ← at, ← marked, ← next)
      (is-added u (continued (numbered s) (length b) n j) z r (n + 12) (piece k (numbered s).number i (take n rest)) d d' (rw (g, e)) f
      (rw (length-piece v k (numbered s).number i (take n rest)) (omega arith)) (p ∙ rw e))

-- ---- the index of the next piece

pub index-begun : (v : Version) (s : State) (l : ℕ) → s.begun ≡ true → index_in v s l ≡ s.index
index-begun Draft00 s l e = ap (λ (y : Bool). cond y s.index (rounded_up (l - (room s - 12)) (s.size - 12))) e
index-begun Draft02 s l e = refl

-- of a start
pub index-first : (s : State) (l : ℕ) → s.begun ≡ false → index_in Draft00 s l ≡ rounded_up (l - (room s - 12)) (s.size - 12)
index-first s l e = ap (λ (y : Bool). cond y s.index (rounded_up (l - (room s - 12)) (s.size - 12))) e
