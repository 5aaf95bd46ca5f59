-- The four ways to place: what holds of each way's outcome holds of placing's.
use Rattle.std.proofs.Common.{ℕ, ◌+◌, ◌-◌, ◌<◌, ◌≤◌, true, false, leb, List, length, take, drop, leb-false, leb-true}
use Rattle.octets.proofs.Flags.{cond_elim}
use Rattle.wire.specs.Message.{bundle}
use Rattle.writing.specs.Written.{piece}
use Rattle.framing.specs.declared.State.{State}
use Rattle.framing.specs.Answers.{Outcome}
use Rattle.framing.specs.Placing.{room, tight, ended, numbered, continued, piece_index, next_index, marks, added, closed, place_piece, placing}
use Rattle.framing.proofs.Steps.{loose}

module _ (P : Outcome → Type 0) (s : State) (d b : List ℕ) where
  pub placing-ways : (length b + 4 ≤ s.size → length b + 4 ≤ room s → P (added s (bundle b) d)) → P (closed s d)
      → (s.size < length b + 4 → 13 ≤ room s → length (drop s.placed b) ≤ room s - 12
      → P (added (ended (numbered s)) (piece (marks s.version s.begun true) (numbered s).number (piece_index s (length b)) (drop s.placed b)) d))
      → (s.size < length b + 4 → 13 ≤ room s → room s - 12 < length (drop s.placed b)
      → P (added (continued (numbered s) (length b) (room s - 12) (next_index s.version (piece_index s (length b)))) (piece (marks s.version s.begun false) (numbered s).number (piece_index s (length b)) (take (room s - 12) (drop s.placed b))) d))
      → P (placing s b d)
  unfolding placing place_piece
  placing-ways whole close last more =
      cond_elim P (leb (length b + 4) s.size)
      (λ e. cond_elim P (leb (length b + 4) (room s)) (λ f. whole (leb-true _ _ e) (leb-true _ _ f)) λ _. close)
      λ e. cond_elim P (tight (room s)) (λ _. close)
      λ f. cond_elim P (leb (length (drop s.placed b)) (room s - 12)) (λ g. last (leb-false _ _ e) (loose _ f) (leb-true _ _ g))
      λ g. more (leb-false _ _ e) (loose _ f) (leb-false _ _ g)
