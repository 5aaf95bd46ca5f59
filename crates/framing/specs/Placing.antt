-- One message or one padding added to the frame of a sender, and the placing of a bundle (document 01, "Sending calls").
use Rattle.std.specs.Prelude.{ℕ, ◌+◌, ◌-◌, ◌/◌, ◌%◌, ◌^◌, Bool, true, false, cond, not, List, length, take, drop, nat_eq, nat_le, nat_lt}
use Rattle.octets.specs.Octets.{put}
use Rattle.wire.specs.declared.Version.{Version}
use Rattle.wire.specs.declared.Version.TheVariants.{Draft00, Draft02}
use Rattle.wire.specs.Message.{Message, bundle}
use Rattle.writing.specs.Written.{written, piece, padding}
use Rattle.framing.specs.declared.State.{State}
use Rattle.framing.specs.Answers.{placed, placed_and_ready, ready, Outcome}

-- the longest bundle
abbrev pub bundle_max : ℕ
bundle_max = 4096

-- Room r is P-f.
abbrev pub room : State → ℕ
room s = s.size - s.fill

-- n divided by d, rounded up
abbrev pub rounded_up : ℕ → ℕ → ℕ
rounded_up n d = (n + (d - 1)) / d

-- The room that closes the frame where a piece is to be placed.
abbrev pub tight : ℕ → Bool
tight r = nat_lt r 13

-- ---- states

abbrev pub with_fill : State → ℕ → State
with_fill s f = record { size = s.size; fill = f; next = s.next; begun = s.begun; number = s.number; length = s.length; placed = s.placed; index = s.index; version = s.version }

-- nothing begun any more
abbrev pub ended : State → State
ended s = record { size = s.size; fill = s.fill; next = s.next; begun = false; number = 0; length = 0; placed = 0; index = 0; version = s.version }

-- The first piece takes the next transfer number, and the number after 4,294,967,295 is 0.
abbrev pub numbered : State → State
numbered s =
    record {
      size = s.size;
      fill = s.fill;
      next = cond s.begun s.next ((s.next + 1) % 2 ^ 32);
      begun = true;
      number = cond s.begun s.number s.next;
      length = s.length;
      placed = s.placed;
      index = s.index;
      version = s.version;
    }

-- n octets more of a bundle of l octets, and i the index of the next piece
abbrev pub continued : State → ℕ → ℕ → ℕ → State
continued s l n i =
    record { size = s.size; fill = s.fill; next = s.next; begun = true; number = s.number; length = l; placed = s.placed + n; index = i; version = s.version }

-- ---- pieces, by the draft: in draft 02 the indexes rise from 0 to that of the end, the last piece; in draft 00 they fall to 0 from that of
-- the start, the first piece

-- The index of the next piece of a bundle of l octets; that of a start is reckoned from the room, for there are as many pieces behind it.
abbrev pub index_in : Version → State → ℕ → ℕ
index_in Draft00 s l = cond s.begun s.index (rounded_up (l - (room s - 12)) (s.size - 12))
index_in Draft02 s l = s.index

abbrev pub piece_index : State → ℕ → ℕ
piece_index s l = index_in s.version s l

-- the index behind i
abbrev pub next_index : Version → ℕ → ℕ
next_index Draft00 i = i - 1
next_index Draft02 i = i + 1

-- whether a piece is an end or a start, where a transfer is begun or not and where the piece is the last or not
abbrev pub marks : Version → Bool → Bool → Bool
marks Draft00 begun final = not begun
marks Draft02 begun final = final

-- ---- one message or one padding

-- A frame whose fill reaches P is ready and f becomes 0; s is the state that is left but for its fill, d the frame with n octets more.
unfoldable pub advanced : State → ℕ → List ℕ → Outcome
advanced s n d =
    let full : Bool = nat_eq (s.fill + n) s.size in
    record { answer = cond full placed_and_ready placed; state = with_fill s (cond full 0 (s.fill + n)); frame = d }

unfoldable pub added : State → Message → List ℕ → Outcome
added s m d = advanced s (length (written s.version m)) (put d s.fill (written s.version m))

unfoldable pub closed : State → List ℕ → Outcome
closed s d = record { answer = ready; state = with_fill s 0; frame = put d s.fill (padding (room s)) }

-- ---- placing a bundle b

-- If at most r-12 octets remain, a piece with them all; else one with r-12 octets.
unfoldable pub place_piece : State → List ℕ → List ℕ → Outcome
place_piece s b d =
    let t : State = numbered s in
    let i : ℕ = piece_index s (length b) in
    let rest : List ℕ = drop s.placed b in
    cond (nat_le (length rest) (room s - 12)) (added (ended t) (piece (marks s.version s.begun true) t.number i rest) d)
    (added (continued t (length b) (room s - 12) (next_index s.version i)) (piece (marks s.version s.begun false) t.number i (take (room s - 12) rest)) d)

unfoldable pub placing : State → List ℕ → List ℕ → Outcome
placing s b d =
    cond (nat_le (length b + 4) s.size) (cond (nat_le (length b + 4) (room s)) (added s (bundle b) d) (closed s d))
    (cond (tight (room s)) (closed s d) (place_piece s b d))
