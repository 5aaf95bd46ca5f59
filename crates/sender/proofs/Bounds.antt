-- A sender's numbers have 32 bits, and what it writes is octets.
--     start-numbered, place-numbered, cancel-numbered, flush-numbered     every call leaves numbers of 32 bits
--     place_octets, cancel_octets, flush_octets     a frame buffer of octets stays one
use mathlib.Core.Path.{◌≡◌, subst}
use mathlib.Core.Bool.{true, false}
use mathlib.Core.List.{List}
use Prim.Native.Nat.{ℕ, ◌+◌, ◌-◌, ◌≤◌, ◌<◌, ◌^◌}
use native.Mathlib.Nat.{div-le_self}
use native.Mathlib.Omega.{arith}
use lib.ListN.{length, take, drop, length-take, length-drop}
use lib.Dec.{eqb}
use borrow.Author.Tests.{eqb-false, ltb-false, not-false}
use Rattle.octets.specs.Octets.{Octets}
use Rattle.octets.proofs.Flags.{cond_elim, neither}
use Rattle.octets.proofs.Numbers.{octets_drop, octets_take}
use Rattle.octets.proofs.Put.{octets_put}
use Rattle.wire.specs.declared.Version.{Version}
use Rattle.wire.specs.declared.Version.TheVariants.{Draft00, Draft02}
use Rattle.wire.specs.Message.{Message, bundle, cancel as cancelling}
use Rattle.writing.specs.Written.{written}
use Rattle.writing.proofs.Written.{octets_bundle, octets_piece, octets_cancel, octets_padding}
use Rattle.framing.specs.declared.State.{State}
use Rattle.framing.specs.Answers.{Outcome}
use Rattle.framing.specs.Placing.{bundle_max, room, index_in, piece_index, marks, ended, numbered, advanced, added, closed, placing}
use Rattle.framing.proofs.Ways.{placing-ways}
use Rattle.sender.specs.Answers.{StartReply, made}
use Rattle.sender.specs.Sound.{sized, sound}
use Rattle.sender.specs.Calls.{fresh, start, place_cases, place, cancel_cases, cancel, flush_cases, flush}
use Rattle.sender.proofs.Ways.{Passed, unless-ways}
use Rattle.sender.proofs.Facts.{in-range, lies_within}

-- the next transfer number, and that of the transfer begun
pub record Numbered (s : State) : Type 0 where
  pub next : s.next < 2 ^ 32
  pub number : s.number < 2 ^ 32

-- ---- numbers

abbrev Left : Outcome → Type 0
Left o = Numbered o.state

left-added : (t : State) (m : Message) (d : List ℕ) → t.next < 2 ^ 32 → t.number < 2 ^ 32 → Left (added t m d)
unfolding added advanced
left-added t m d n k = record { next = n; number = k }

left-closed : (s : State) (d : List ℕ) → Numbered s → Left (closed s d)
unfolding closed
left-closed s d n = record { next = n.next; number = n.number }

next-number : (s : State) → Numbered s → Numbered (numbered s)
next-number s n =
    record {
      next = cond_elim (λ (k : ℕ). k < 2 ^ 32) s.begun (λ _. n.next) λ _. omega arith;
      number = cond_elim (λ (k : ℕ). k < 2 ^ 32) s.begun (λ _. n.number) λ _. n.next;
    }

pub start-numbered : (v : Version) (p n : ℕ) (s : State) → start v p n ≡ made s → n < 2 ^ 32 → Numbered s
unfolding start
start-numbered v p n s e h =
    cond_elim (λ (r : StartReply). r ≡ made s → Numbered s) (sized p)
    (λ _ g. let same : fresh v p n ≡ s = cc in subst Numbered same (record { next = h; number = omega arith }))
    (λ _ g. absurd (let z : ◌≡◌ {A = ℕ} 0 1 = cc in omega arith)) e

pub place-numbered : (s : State) (b d : List ℕ) → Numbered s → Numbered (place s b d).state
unfolding place
place-numbered s b d n =
    let t = next-number s n in
    unless-ways Left s d (place_cases s b d) (placing s b d) (λ _. n)
    λ _. placing-ways Left s d b (λ _ _. left-added s _ d n.next n.number) (left-closed s d n)
    (λ _ _ _. left-added _ _ d t.next (omega arith)) (λ _ _ _. left-added _ _ d t.next t.number)

pub cancel-numbered : (s : State) (d : List ℕ) → Numbered s → Numbered (cancel s d).state
unfolding cancel
cancel-numbered s d n =
    unless-ways Left s d (cancel_cases s d) (added (ended s) (cancelling s.number) d) (λ _. n) λ _. left-added (ended s) _ d n.next (omega arith)

pub flush-numbered : (s : State) (d : List ℕ) → Numbered s → Numbered (flush s d).state
unfolding flush
flush-numbered s d n =
    unless-ways Left s d (flush_cases s d) _ (λ _. n) λ _. cond_elim Left (eqb s.fill 0) (λ _. n) λ _. left-closed s d n

-- ---- octets

abbrev Written : Outcome → Type 0
Written o = Octets o.frame

written-added : (t : State) (m : Message) (d : List ℕ) → Octets d → Octets (written t.version m) → Written (added t m d)
unfolding added advanced
written-added t m d low new = octets_put d t.fill (written t.version m) low new

written-closed : (s : State) (d : List ℕ) → sound s ≡ true → Octets d → Written (closed s d)
unfolding closed
written-closed s d ok low = let r = in-range s ok in octets_put d s.fill _ low (octets_padding (room s) (omega arith))

-- the index of a piece
index-low : (v : Version) (s : State) (l : ℕ) → s.size ≤ 2048 → l ≤ bundle_max → s.index ≤ 64 → index_in v s l < 2 ^ 32
index-low Draft00 s l h k few =
    cond_elim (λ (i : ℕ). i < 2 ^ 32) s.begun (λ _. omega arith)
    λ _. omega (arith, div-le_self (l - (room s - 12) + (s.size - 12 - 1)) (s.size - 12))
index-low Draft02 s l h k few = omega arith

written-placing : (s : State) (b d : List ℕ) → sound s ≡ true → length b ≤ bundle_max → s.index ≤ 64 → Numbered s → Octets b → Octets d
    → Written (placing s b d)
written-placing s b d ok fits few n new low =
    let v : Version = s.version in
    let i : ℕ = piece_index s (length b) in
    let q : i < 2 ^ 32 = index-low v s (length b) (in-range s ok).high fits few in
    let k = (next-number s n).number in
    let rest : List ℕ = drop s.placed b in
    let r : Octets rest = octets_drop s.placed b new in
    let l : length rest ≡ length b - s.placed = length-drop s.placed b in
    placing-ways Written s d b (λ _ _. written-added s (bundle b) d low (octets_bundle s.version b (omega arith) new)) (written-closed s d ok low)
    (λ _ _ _. written-added _ _ d low (octets_piece v (marks v s.begun true) _ i rest k q (omega arith) r))
    λ _ _ _. written-added _ _ d low
    (octets_piece v (marks v s.begun false) _ i (take (room s - 12) rest) k q (rw length-take (omega arith)) (octets_take (room s - 12) rest r))

pub place_octets : (s : State) (b d : List ℕ) → Numbered s → Octets b → Octets d → Octets (place s b d).frame
unfolding place place_cases Passed
place_octets s b d n new low =
    unless-ways Written s d (place_cases s b d) (placing s b d) (λ _. low)
    λ p. let ok = not-false _ p.0 in
    let (z, h) = neither _ _ p.1.1.0 in
    let o : length b ≡ 0 → ⊥ = eqb-false _ _ z in
    written-placing s b d ok (ltb-false _ _ h) (lies_within s ok (length b) (omega arith) p.1.1.1.0).1 n new low

pub cancel_octets : (s : State) (d : List ℕ) → Numbered s → Octets d → Octets (cancel s d).frame
unfolding cancel
cancel_octets s d n low =
    unless-ways Written s d (cancel_cases s d) (added (ended s) (cancelling s.number) d) (λ _. low)
    λ _. written-added (ended s) _ d low (octets_cancel s.version s.number n.number)

pub flush_octets : (s : State) (d : List ℕ) → Octets d → Octets (flush s d).frame
unfolding flush flush_cases Passed
flush_octets s d low =
    unless-ways Written s d (flush_cases s d) _ (λ _. low)
    λ p. cond_elim Written (eqb s.fill 0) (λ _. low) λ _. written-closed s d (not-false _ p.0) low
