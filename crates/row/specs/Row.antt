-- The row of one transfer (document 01, "One row", and "Sound state" for a row): its pieces, the verdict on a segment or an end, and
-- the sound rows.
use Rattle.std.specs.Prelude.{Bool, true, false, cond, not, ◌&&◌, ◌||◌, List, ℕ, ◌+◌, take, replicate, ltb, leb, eqb}
use Rattle.std.specs.Bool.{beq}
use Rattle.octets.specs.Octets.{sum_of}
use Rattle.pieces.specs.Pieces.{bundle_max, has, has_above, has_all, low_and_distinct, zero_from}
use Rattle.row.specs.declared.Row.{Row}
use Rattle.row.specs.declared.Verdict.{Verdict}
use Rattle.row.specs.declared.Verdict.TheVariants.{Stays, Abandons, Accepts}
use Rattle.row.specs.declared.Phase.{Phase}
use Rattle.row.specs.declared.Phase.TheVariants.{Free, Open, Done, Cancelled, Abandoned}

-- ---- the pieces held

unfoldable pub indexes_of : Row → List ℕ
indexes_of r = take r.held r.indexes

unfoldable pub lengths_of : Row → List ℕ
lengths_of r = take r.held r.lengths

-- ---- the row rules

abbrev pub empty_row : Phase → Row
empty_row p = record { phase = p; known = false; last = 0; held = 0; indexes = replicate 64 0; lengths = replicate 64 0 }

-- a row that takes messages
abbrev pub is_live : Phase → Bool
is_live Free = true
is_live Open = true
is_live Done = false
is_live Cancelled = false
is_live Abandoned = false

abbrev pub is_open : Phase → Bool
is_open Free = false
is_open Open = true
is_open Done = false
is_open Cancelled = false
is_open Abandoned = false

-- step 3, from whether index i and an index above it are held: final known and i above it; an end whose i is not the known final; an end
-- with a held index above i; index i held but as the other kind. The index that is the known final is held as an end, any other as a segment.
abbrev pub contradiction : Bool → ℕ → Bool → Bool → ℕ → Bool → Bool
contradiction known last held above i ending =
    (known && ltb last i)
    || (ending && known && not (eqb i last))
    || (ending && above)
    || (held && not (beq ending (known && eqb last i)))

unfoldable pub contradicts : Row → Bool → ℕ → Bool
contradicts r ending i = contradiction r.known r.last (has i (indexes_of r)) (has_above i (indexes_of r)) i ending

-- steps 2 to 6, from their tests: i above 63; a contradiction; i held; too many octets. Data that is accepted goes behind the octets held.
abbrev pub decide : Bool → Bool → Bool → Bool → ℕ → Verdict
decide wide contradicted held over octets = cond wide Abandons (cond contradicted Abandons (cond held Stays (cond over Abandons (Accepts octets))))

unfoldable pub judge_live : Row → Bool → ℕ → ℕ → Verdict
judge_live r ending i n = decide (ltb 63 i) (contradicts r ending i) (has i (indexes_of r)) (ltb bundle_max (sum_of (lengths_of r) + n)) (sum_of (lengths_of r))

-- steps 1 to 6
unfoldable pub judge : Row → Bool → ℕ → ℕ → Verdict
judge r ending i n = cond (is_live r.phase) (judge_live r ending i n) Stays

-- ---- sound rows

-- a known final is held, no index is above it, and not all of 0 to the final are held
unfoldable pub sound_last : Bool → ℕ → List ℕ → Bool
sound_last known last is = cond known (has last is && not (has_above last is) && not (has_all (last + 1) is)) (eqb last 0)

unfoldable pub sound_pieces : Row → Bool
sound_pieces r = low_and_distinct (indexes_of r) && (leb (sum_of (lengths_of r)) bundle_max && zero_from r.held r.indexes r.lengths)

-- 1 to 64 pieces with different indexes up to 63, lengths that add up to at most 4,096, zero entries beyond them, and a sound final
unfoldable pub sound_open : Row → Bool
sound_open r = leb 1 r.held && leb r.held 64 && sound_pieces r && sound_last r.known r.last (indexes_of r)

-- a row that is not open: all entries are zero
unfoldable pub sound_empty : Row → Bool
sound_empty r = not r.known && eqb r.last 0 && eqb r.held 0 && zero_from 0 r.indexes r.lengths

unfoldable pub sound_row : Row → Bool
sound_row r = cond (is_open r.phase) (sound_open r) (sound_empty r)
