-- Recordings (document 02, E1): "a count of frames (32 bits), that many 16-bit lengths, a count of octets (32 bits) and the octets, big-endian".
use Rattle.std.specs.Prelude.{Bool, true, cond, not, ◌&&◌, ◌||◌, List, [], ◌∷◌, ◌++◌, ◌≡◌, ℕ, ◌+◌, ◌*◌, ◌≤◌, length, take, drop, replicate, ltb, leb, eqb, Result, Ok, Err}
use Rattle.std.proofs.Math.Option.{Option, none, some}
use Rattle.octets.specs.Octets.{Octets, number, be32, pairs, spread, put, sum_of}
use Rattle.wire.specs.Frame.{frame_max}
use Rattle.recording.specs.declared.Opened.{Opened}
use Rattle.recording.specs.declared.Refusal.{Refusal}
use Rattle.recording.specs.declared.Refusal.TheVariants.{CutShort, OverLimit, FrameLength, OctetCount, LeftOver, ShortOutput}

-- document 02's numbers
abbrev pub refusal_number : Refusal → ℕ
refusal_number CutShort = 16
refusal_number OverLimit = 17
refusal_number FrameLength = 18
refusal_number OctetCount = 19
refusal_number LeftOver = 20
refusal_number ShortOutput = 24

-- "at most 1,024 frames and 61,440 octets"
abbrev pub frames_max : ℕ
frames_max = 1024

abbrev pub octets_max : ℕ
octets_max = 61440

-- frames as their lengths and their joined octets
pub record Recording : Type 0 where
  pub lengths : List ℕ
  pub octets : List ℕ

pub data Read : Type 0 where
  refused : Refusal → Read
  good : Recording → Read

-- "a length outside 1 to 2,048" is refused
unfoldable pub sized : List ℕ → Bool
sized [] = true
sized (n ∷ ns) = (leb 1 n && leb n frame_max) && sized ns

-- refusals 18 and 19: "octet count not the sum of the lengths"
unfoldable pub uneven : List ℕ → ℕ → Option Refusal
uneven lengths count = cond (not (sized lengths)) (some FrameLength) (cond (not (eqb count (sum_of lengths))) (some OctetCount) none)

-- as the code answers it
unfoldable pub verdict : Option Refusal → Result (Unit {0}) Refusal
verdict none = Ok tt
verdict (some q) = Err q

-- ---- the reader

-- refusals 18 and 19, then 20: "octets left over"
unfoldable pub whole : Option Refusal → Bool → Recording → Read
whole (some q) more r = refused q
whole none more r = cond more (refused LeftOver) (good r)

-- "16 cut short (the first count, or what must follow counts within their limits, is missing), 17 a count above its limit"
unfoldable pub read : List ℕ → Read
read xs =
    let n : ℕ = number xs in
    let m : ℕ = number (drop (4 + n * 2) xs) in
    let lengths : List ℕ = pairs n (drop 4 xs) in
    cond (ltb (length xs) 4) (refused CutShort)
    (cond (ltb frames_max n) (refused OverLimit)
    (cond (ltb (length xs) (8 + n * 2)) (refused CutShort)
    (cond (ltb octets_max m) (refused OverLimit)
    (cond (ltb (length xs) (8 + n * 2 + m)) (refused CutShort)
    (whole (uneven lengths m) (ltb (8 + n * 2 + m) (length xs)) (record { lengths = lengths; octets = take m (drop (8 + n * 2) xs) }))))))

-- room for the lengths of every recording
unfoldable pub blank : List ℕ
blank = replicate frames_max 0

-- as the code answers it: the lengths with zeros behind them, and how many frames and octets there are
unfoldable pub opened : Read → Result Opened Refusal
opened (refused q) = Err q
opened (good r) = Ok (record { lengths = put blank 0 r.lengths; frames = length r.lengths; octets = length r.octets })

-- on the way of the code: a count at a position, at most its limit
unfoldable pub count_at : ℕ → ℕ → List ℕ → Result ℕ Refusal
count_at at limit xs =
    cond (ltb (length xs) (at + 4)) (Err CutShort)
    (cond (ltb limit (number (drop at xs))) (Err OverLimit)
    (Ok (number (drop at xs))))

-- ---- the writer

unfoldable pub written : Recording → List ℕ
written r = be32 (length r.lengths) ++ spread r.lengths ++ be32 (length r.octets) ++ r.octets

-- "The writer gives 17 to 19 likewise"
unfoldable pub unwritable : Recording → Option Refusal
unwritable r = cond (ltb frames_max (length r.lengths) || ltb octets_max (length r.octets)) (some OverLimit) (uneven r.lengths (length r.octets))

-- the answer, and the output after it
pub record Wrote : Type 0 where
  pub answer : Result ℕ Refusal
  pub output : List ℕ

-- "then 24 for too short an output; all output not written to stays"
unfoldable pub writes : Option Refusal → Recording → List ℕ → Wrote
writes (some q) r output = record { answer = Err q; output = output }
writes none r output =
    cond (ltb (length output) (length (written r)))
    (record { answer = Err ShortOutput; output = output })
    (record { answer = Ok (length (written r)); output = put output 0 (written r) })

unfoldable pub write : Recording → List ℕ → Wrote
write r output = writes (unwritable r) r output

-- ---- "Reading what was written, and writing what was read, give the same back."

pub record RoundTrips : Type 0 where
  pub written-reads : (r : Recording) (output : List ℕ) (n : ℕ) → (write r output).answer ≡ Ok n → read (take n (write r output).output) ≡ good r
  pub read-writes : (xs : List ℕ) → Octets xs → (r : Recording) → read xs ≡ good r
      → (output : List ℕ) → length xs ≤ length output → write r output ≡ record { answer = Ok (length xs); output = put output 0 xs }
