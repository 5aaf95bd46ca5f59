-- The playing call (document 02, E1): a recording on a fresh receiver, its results in lent memory.
use Rattle.std.specs.Prelude.{cond, not, ◌||◌, List, map, ◌≡◌, ℕ, ◌*◌, ◌≤◌, length, eqb, ltb, Result, Ok, Err}
use Rattle.std.proofs.Math.Option.{Option, none, some}
use Rattle.wire.specs.declared.Version.TheVariants.{Draft02}
use Rattle.octets.specs.Octets.{sum_of, put}
use Rattle.pieces.specs.Pieces.{bundle_max}
use Rattle.rows.specs.State.{fresh}
use Rattle.rows.specs.Message.{draft, Handed}
use Rattle.rows.specs.Messages.{joined_octets}
use Rattle.recording.specs.Recording as Reader
use Rattle.recording.specs.Recording.{Recording, Read, refused, good, read, frames_max, octets_max}
use Rattle.frames.specs.Frames.{Note, frames_of}
use Rattle.frames.specs.declared.Reached.{Reached}
use Rattle.playback.specs.Playback.{Playback, played}
use Rattle.playback.specs.declared.Played.{Played}
use Rattle.playback.specs.declared.Refusal.{Refusal}
use Rattle.playback.specs.declared.Refusal.TheVariants.{Unreadable, PoolSize, ShortOutput}

-- document 02's numbers
abbrev pub refusal_number : Refusal → ℕ
refusal_number (Unreadable q) = Reader.refusal_number q
refusal_number PoolSize = 2
refusal_number ShortOutput = 24

-- the most bundles: each takes up four octets of a recording at least
abbrev pub bundles_max : ℕ
bundles_max = 15360

-- memory lent for the results
pub record Results : Type 0 where
  pub output : List ℕ
  pub lengths : List ℕ
  pub places : List ℕ
  pub reasons : List ℕ

abbrev pub results : List ℕ → List ℕ → List ℕ → List ℕ → Results
results output lengths places reasons = record { output = output; lengths = lengths; places = places; reasons = reasons }

-- "Bundles go joined into 61,440 octets, their lengths into 15,360 entries, each refused frame's place (from 0) and refusal number, in order, into 1,024"
abbrev pub resulting : Playback → Results → Results
resulting p r =
    record {
      output = put r.output 0 (joined_octets p.bundles);
      lengths = put r.lengths 0 (map (λ (h : Handed). length h.octets) p.bundles);
      places = put r.places 0 (map (λ (n : Note). n.place) p.notes);
      reasons = put r.reasons 0 (map (λ (n : Note). n.reason) p.notes);
    }

-- the answer, and the lent memory after it
pub record Reply : Type 0 where
  pub answer : Result Played Refusal
  pub pool : List ℕ
  pub results : Results

abbrev pub reply : Result Played Refusal → List ℕ → Results → Reply
reply answer pool r = record { answer = answer; pool = pool; results = r }

-- what is reported of a playback
abbrev pub counts : ℕ → ℕ → ℕ → ℕ → Played
counts messages bundles octets frames = record { messages = messages; bundles = bundles; octets = octets; refused = frames }

-- "reports how many messages the definition has treated"
abbrev pub answered : Playback → Results → Reply
answered p r = reply (Ok (counts (length p.messages) (length p.bundles) (length (joined_octets p.bundles)) (length p.notes))) p.board.pool (resulting p r)

-- "Playback and M13 relied on 16 and must now ask for it by name" (E6)
abbrev pub play_window : ℕ
play_window = 16

-- "playback on a fresh receiver", of draft 02 ("recordings are draft 02", E5)
abbrev pub played_fresh : ℕ → List ℕ → List (List ℕ) → Playback
played_fresh limit pool fs = played (draft Draft02) play_window limit (record { state = fresh Draft02 play_window; pool = pool }) fs

-- "fewer are 24; first the reader's numbers, then 2 for the pool"
unfoldable pub unlent : List ℕ → Results → Option Refusal
unlent pool r =
    cond (not (eqb (length pool) (play_window * bundle_max))) (some PoolSize)
    (cond (ltb (length r.output) octets_max || (ltb (length r.lengths) bundles_max || (ltb (length r.places) frames_max || ltb (length r.reasons) frames_max))) (some ShortOutput) none)

-- a refused call changes nothing
unfoldable pub replied : Option Refusal → List ℕ → Results → Reply → Reply
replied none pool r p = p
replied (some q) pool r p = reply (Err q) pool r

unfoldable pub play_frames : Recording → ℕ → List ℕ → Results → Reply
play_frames t limit pool r = replied (unlent pool r) pool r (answered (played_fresh limit pool (frames_of t.lengths t.octets)) r)

unfoldable pub play_read : Read → ℕ → List ℕ → Results → Reply
play_read (refused q) limit pool r = reply (Err (Unreadable q)) pool r
play_read (good t) limit pool r = play_frames t limit pool r

abbrev pub play : List ℕ → ℕ → List ℕ → Results → Reply
play recording limit pool r = play_read (read recording) limit pool r

-- ---- on the way of the code

-- room for the bundles of a whole playback, and for one more
abbrev pub buffer_size : ℕ
buffer_size = 65536

-- frames of a recording, and enough memory for what they give
pub record Enough (sizes joined pool : List ℕ) (r : Results) : Type 0 where
  pub few : length sizes ≤ frames_max
  pub sum : sum_of sizes ≤ length joined
  pub small : length joined ≤ octets_max
  pub pooled : length pool ≡ play_window * bundle_max
  pub lengths : bundles_max ≤ length r.lengths
  pub places : frames_max ≤ length r.places
  pub reasons : frames_max ≤ length r.reasons

-- the loop over frames, as the call answers it
abbrev pub came : Reached → List ℕ → Results → Reply
came r pool results = reply (Ok (counts r.progress.treated r.progress.count r.progress.used r.refused)) pool results
