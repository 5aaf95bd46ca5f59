-- The messages that a sender writes (document 01, "Octets of a frame"; flags and padding by "Sending calls").
use Rattle.std.specs.Prelude.{Bool, cond, List, [], ◌∷◌, ◌++◌, ℕ, ◌-◌, ◌/◌, ◌%◌, replicate, leb}
use Rattle.octets.specs.Octets.{be32}
use Rattle.wire.specs.declared.Version.{Version}
use Rattle.wire.specs.declared.Version.TheVariants.{Draft00, Draft02}
use Rattle.wire.specs.declared.Kind.{Kind}
use Rattle.wire.specs.declared.Kind.TheVariants.{Skipped, Bundle, Segment, End, Cancel}
use Rattle.wire.specs.Message.{Message, skipped, bundle, segment, last, cancel, kind, content_length}

-- The types, by the draft: a segment, and an end or the start of draft 00; what is to be passed over is written as definite padding.
abbrev pub segment_type : Version → ℕ
segment_type Draft00 = 4
segment_type Draft02 = 3

abbrev pub end_type : Version → ℕ
end_type Draft00 = 3
end_type Draft02 = 4

abbrev pub type_of : Version → Kind → ℕ
type_of v Skipped = 1
type_of v Bundle = 2
type_of v Segment = segment_type v
type_of v End = end_type v
type_of v Cancel = 5

-- A header of a type, alike in both drafts: flags that are all 0 and a length of 20 bits, or a length of 24 bits below 2^20.
unfoldable pub header : ℕ → ℕ → List ℕ
header type n = type ∷ n / 65536 ∷ n / 256 % 256 ∷ n % 256 ∷ []

-- The content without hints: transfer number, segment index, data.
unfoldable pub content_of : Message → List ℕ
content_of skipped = []
content_of (bundle xs) = xs
content_of (segment n i xs) = be32 n ++ be32 i ++ xs
content_of (last n i xs) = be32 n ++ be32 i ++ xs
content_of (cancel n) = be32 n

-- the octets of a message
unfoldable pub written : Version → Message → List ℕ
written v m = header (type_of v (kind m)) (content_length m) ++ content_of m

abbrev pub piece_kind : Bool → Kind
piece_kind ending = cond ending End Segment

-- a transfer end, in draft 00 the start, or a transfer segment
unfoldable pub piece : Bool → ℕ → ℕ → List ℕ → Message
piece ending n i xs = cond ending (last n i xs) (segment n i xs)

-- What closes a frame in which r octets are left: definite padding with zeros, or too few for a header and so zeros.
unfoldable pub padding : ℕ → List ℕ
padding r = cond (leb 4 r) (header 1 (r - 4) ++ replicate (r - 4) 0) (replicate r 0)
