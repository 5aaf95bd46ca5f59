-- Recordings for hosts in other languages: written, read and played, each answer as a number and an array of four numbers.
use Rattle.std.specs.Prelude.{List, [], ◌∷◌, ℕ, ◌+◌, ◌*◌, length, get_or, set, Result, Ok, Err}
use Rattle.octets.specs.Octets.{put}
use Rattle.recording.specs.declared.Refusal.{Refusal}
use Rattle.recording.specs.Recording as Recording
use Rattle.recording.specs.Recording.{Read, refused, good, blank, Wrote}
use Rattle.playback.specs.declared.Played as Playing
use Rattle.playback.specs.declared.Refusal as Playback
use Rattle.playback.specs.Call as Call
use Rattle.playback.specs.Call.{Results}

-- ---- writing: 0 or the refusal's number; what it leaves of the output and the result

pub record Recorded : Type 0 where
  pub status : ℕ
  pub output : List ℕ
  pub result : List ℕ

-- the octets written; other entries stay
unfoldable pub written : Result ℕ Refusal → List ℕ → List ℕ → Recorded
written (Ok n) output result = record { status = 0; output = output; result = set result 0 n }
written (Err q) output result = record { status = Recording.refusal_number q; output = output; result = result }

unfoldable pub recorded : List ℕ → List ℕ → List ℕ → List ℕ → Recorded
recorded sizes octets output result =
    let w : Wrote = Recording.write (record { lengths = sizes; octets = octets }) output in
    written w.answer w.output result

-- ---- reading: what it leaves of the list of sizes and the result

pub record Opened : Type 0 where
  pub status : ℕ
  pub sizes : List ℕ
  pub result : List ℕ

-- how many frames and octets there are, and where the octets start
unfoldable pub opened_as : Read → List ℕ → List ℕ → Opened
opened_as (refused q) sizes result = record { status = Recording.refusal_number q; sizes = sizes; result = result }
opened_as (good r) sizes result =
    record {
      status = 0;
      sizes = put blank 0 r.lengths;
      result = length r.lengths ∷ length r.octets ∷ (8 + length r.lengths * 2) ∷ get_or result 3 0 ∷ [];
    }

unfoldable pub opened : List ℕ → List ℕ → List ℕ → Opened
opened recording sizes result = opened_as (Recording.read recording) sizes result

-- ---- playing: what it leaves of the pool, the lent memory and the result

pub record Played : Type 0 where
  pub status : ℕ
  pub pool : List ℕ
  pub results : Results
  pub result : List ℕ

-- messages treated, bundles, their octets, frames refused
unfoldable pub played_as : Result Playing.Played Playback.Refusal → List ℕ → Results → List ℕ → Played
played_as (Ok p) pool r result = record { status = 0; pool = pool; results = r; result = p.messages ∷ p.bundles ∷ p.octets ∷ p.refused ∷ [] }
played_as (Err q) pool r result = record { status = Call.refusal_number q; pool = pool; results = r; result = result }

unfoldable pub played : List ℕ → ℕ → List ℕ → Results → List ℕ → Played
played recording limit pool r result =
    let p : Call.Reply = Call.play recording limit pool r in
    played_as p.answer p.pool p.results result
