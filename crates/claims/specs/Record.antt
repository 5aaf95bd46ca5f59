-- An honest sender's record (document 01, "Honest record"), over the draft.
use Rattle.std.specs.Prelude.{◌≡◌, Bool, cond, ℕ, ◌+◌, ◌%◌, ◌^◌, ◌≤◌, ◌<◌, length, get_or, eqb}
use mathlib.Core.List.{List, [], map, Memᴰ}
use Rattle.wire.specs.declared.Version.{Version}
use Rattle.wire.specs.Message.{Message, skipped, bundle, segment, last, cancel}
use Rattle.wire.specs.Frame.{Item, row, scanned, messages, frame_max}
use Rattle.octets.specs.Octets.{sum_of}
use Rattle.pieces.specs.Pieces.{bundle_max}
use Rattle.rows.specs.Message.{Draft, draft}

-- "A frame is one link-layer PDU, 1 to 2,048 octets. It is a row of messages that ends exactly at its end."
pub record WellFormed (D : Draft) (frame : List ℕ) : Type 0 where
  pub some : 0 < length frame
  pub small : length frame ≤ frame_max
  pub items : List Item
  pub whole : scanned D.read frame ≡ row items

-- What the numbers of a record stand for.
pub record Transfers : Type 0 where
  -- "transfer numbers are successive modulo 2^32 from any start, at most 2,000,000,000 of them"
  pub first : ℕ
  pub start : first < 2 ^ 32
  pub count : ℕ
  pub few : count ≤ 2000000000
  -- "one number belongs to one bundle of at most 4,096 octets in at most 64 pieces": those of the number k places after the first, by index
  pub pieces : ℕ → List (List ℕ)
  pub short : (k : ℕ) → k < count → length (pieces k) ≤ 64
  pub fits : (k : ℕ) → k < count → sum_of (map length (pieces k)) ≤ bundle_max

-- the number k places after the first
unfoldable pub number_at : Transfers → ℕ → ℕ
number_at T k = (T.first + k) % 2 ^ 32

-- "only the last piece is an end"; in draft 00 "in an honest record only that one", the first piece sent, of the highest index, "is the start"
abbrev pub is_last : List (List ℕ) → ℕ → Bool
is_last pieces i = eqb (i + 1) (length pieces)

-- the message of its piece i: "indexes run from 0", in draft 00 "falling to 0"
unfoldable pub piece_at : Transfers → ℕ → ℕ → Message
piece_at T k i =
    let octets : List ℕ = get_or (T.pieces k) i [] in
    cond (is_last (T.pieces k) i) (last (number_at T k) i octets) (segment (number_at T k) i octets)

-- A message of an honest record: padding or of an unknown type, a bundle, a piece, or a cancel.
pub data Honest (T : Transfers) : Message → Type 0 where
  padding : Honest T skipped
  whole : (content : List ℕ) → Honest T (bundle content)
  -- "every message of one number and index is an exact copy of the others"
  piece : (k i : ℕ) → k < T.count → i < length (T.pieces k) → Honest T (piece_at T k i)
  -- "Cancels name numbers of the record"
  cancelled : (k : ℕ) → k < T.count → Honest T (cancel (number_at T k))

-- "cancelled transfers may lack pieces": no piece has to stand in a frame.
pub record Record (v : Version) : Type 0 where
  pub transfers : Transfers
  pub frames : List (List ℕ)
  -- "every frame is well formed"
  pub well_formed : (f : List ℕ) → Memᴰ f frames → WellFormed (draft v) f
  pub honest : (f : List ℕ) (m : Message) → Memᴰ f frames → Memᴰ m (messages (draft v).read f) → Honest transfers m
