-- Reading the message at the head of what remains of a frame (document 01, "Octets of a frame").
use Rattle.std.specs.Prelude.{Bool, true, false, cond, List, [], ◌∷◌, ℕ, zero, suc, ◌+◌, ◌*◌, ◌%◌, length, get_or, take, drop, ltb, leb, eqb, None, Option, Some}
use Rattle.octets.specs.Octets.{number}
use Rattle.wire.specs.declared.Version.{Version}
use Rattle.wire.specs.declared.Version.TheVariants.{Draft00, Draft02}
use Rattle.wire.specs.declared.Kind.{Kind}
use Rattle.wire.specs.declared.Kind.TheVariants.{Skipped, Bundle, Segment, End, Cancel}
use Rattle.wire.specs.declared.Fault.TheVariants.{ShortHeader, PastFrame, PastMessage, BadContent}
use Rattle.wire.specs.Message.{Message, skipped, bundle, segment, last, cancel, Read, bad, good}

-- Indefinite padding: how many zero octets stand at the head, up to the first other octet or the end.
unfoldable pub zeros : List ℕ → ℕ
zeros [] = 0
zeros (zero ∷ xs) = 1 + zeros xs
zeros (suc x ∷ xs) = 0

-- ---- a header, by the draft: draft 02 (document 003) has flags, hints and a length of 20 bits; draft 00 (document 000, section 7) has none
-- of these and a length of 24 bits, and its start, of type 3, stands for an end

abbrev pub third : Version → Kind
third Draft00 = End
third Draft02 = Segment

abbrev pub fourth : Version → Kind
fourth Draft00 = Segment
fourth Draft02 = End

-- Types 2 to 5 are read, all others passed over by their length.
unfoldable pub kind_of : Version → ℕ → Kind
kind_of v type = cond (eqb type 2) Bundle (cond (eqb type 3) (third v) (cond (eqb type 4) (fourth v) (cond (eqb type 5) Cancel Skipped)))

-- of the second octet: the highest bits of the length, and whether hints follow; the reserved bits are ignored
abbrev pub length_top : Version → ℕ → ℕ
length_top Draft00 x = x
length_top Draft02 x = x % 16

abbrev pub hinted : Version → ℕ → Bool
hinted Draft00 x = false
hinted Draft02 x = leb 128 x

-- the length field of the header at the head
unfoldable pub length_field : Version → List ℕ → ℕ
length_field v xs = length_top v (get_or xs 1 0) * 65536 + get_or xs 2 0 * 256 + get_or xs 3 0

-- What a chain of hints leaves of a message's octets, if it stays within them.
pub data Chain : Type 0 where
  overrun : Chain
  behind : List ℕ → Chain

-- The octets behind the chain at the head; the first argument is at least the number of hints.
unfoldable pub chain : ℕ → List ℕ → Chain
chain zero xs = overrun
chain (suc n) xs =
    cond (ltb (length xs) 2) overrun
    (cond (ltb (length xs) (2 + get_or xs 1 0)) overrun
    (cond (eqb (get_or xs 0 0 % 2) 0) (behind (drop (2 + get_or xs 1 0) xs))
    (chain n (drop (2 + get_or xs 1 0) xs))))

-- the octets behind the hints, if the header's flag H is set
unfoldable pub hints : Bool → List ℕ → Chain
hints hinted xs = cond hinted (chain (length xs) xs) (behind xs)

-- how many octets that is
unfoldable pub left : Chain → Option ℕ
left overrun = None
left (behind xs) = Some (length xs)

-- as the hint walk answers it
unfoldable pub walked : Chain → ℕ
walked overrun = 0
walked (behind xs) = 1 + length xs

-- Whether a content has a length that its kind may have.
unfoldable pub fitting : Kind → ℕ → Bool
fitting Skipped n = true
fitting Bundle n = true
fitting Segment n = leb 8 n
fitting End n = leb 8 n
fitting Cancel n = eqb n 4

-- The message of a kind with a fitting content: transfer number, segment index, data.
unfoldable pub message : Kind → List ℕ → Message
message Skipped xs = skipped
message Bundle xs = bundle xs
message Segment xs = segment (number xs) (number (drop 4 xs)) (drop 8 xs)
message End xs = last (number xs) (number (drop 4 xs)) (drop 8 xs)
message Cancel xs = cancel (number xs)

unfoldable pub content : Kind → Chain → ℕ → Read
content k overrun size = bad PastMessage
content k (behind xs) size = cond (fitting k (length xs)) (good (message k xs) size) (bad BadContent)

-- In a message that is passed over nothing after the header is looked at.
unfoldable pub body : Kind → Chain → ℕ → Read
body Skipped c size = good skipped size
body Bundle c size = content Bundle c size
body Segment c size = content Segment c size
body End c size = content End c size
body Cancel c size = content Cancel c size

-- a message with its header at the head, from the length that the header says
unfoldable pub bodied : Version → List ℕ → ℕ → Read
bodied v xs size = body (kind_of v (get_or xs 0 0)) (hints (hinted v (get_or xs 1 0)) (take size (drop 4 xs))) (4 + size)

-- The message with a header at the head, or the first refusal of 4 to 8 that applies. The reserved flag bits "MUST be ignored by the
-- receiver" (document 003, section 7.1), in every type.
unfoldable pub headed : Version → List ℕ → Read
headed v xs =
    cond (ltb (length xs) 4) (bad ShortHeader)
    (cond (ltb (length xs) (4 + length_field v xs)) (bad PastFrame)
    (bodied v xs (length_field v xs)))

-- Nothing starts where no octet is left.
unfoldable pub read : Version → List ℕ → Read
read v [] = bad ShortHeader
read v (zero ∷ xs) = good skipped (1 + zeros xs)
read v (suc t ∷ xs) = headed v (suc t ∷ xs)
