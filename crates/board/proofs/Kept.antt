-- What the exported calls on recordings keep (document 02, E1): reading what was written, writing what was read, and the limit of a playback.
use mathlib.Core.Path.{◌≡◌, refl, sym, ap, ◌∙◌}
use mathlib.Core.List.{List, [], ◌∷◌}
use Prim.Native.Nat.{ℕ, ◌+◌, ◌*◌, ◌≤◌, ◌<◌}
use native.Mathlib.Omega.{arith}
use lib.ListN.{length, get_or, take, drop, set}
use lib.Seq.{get_or-set_same}
use Rattle.octets.specs.Octets.{Octets, put}
use Rattle.octets.proofs.Put.{read_back}
use Rattle.recording.specs.declared.Refusal as Reading
use Rattle.std.specs.Prelude.{Result, Ok, Err}
use Rattle.recording.specs.Recording as Recording
use Rattle.recording.specs.Recording.{Recording, Read, refused, good, read, blank, Wrote, write}
use Rattle.recording.proofs.Refusals.{number-some}
use Rattle.recording.proofs.Opens.{opens_good}
use Rattle.recording.proofs.Trips.{round_trips}
use Rattle.playback.specs.declared.Played as Playing
use Rattle.playback.specs.declared.Refusal as Playback
use Rattle.playback.specs.declared.Refusal.{Refusal}
use Rattle.playback.specs.declared.Refusal.TheVariants.{Unreadable, PoolSize, ShortOutput}
use Rattle.playback.specs.Call as Call
use Rattle.playback.specs.Call.{Results, play}
use Rattle.playback.proofs.Refusals.{within-limit}
use Rattle.board.specs.Recordings.{written, Recorded, recorded, Opened, opened_as, opened, played_as, played}

-- the sizes of a recording, and what there is of it, as an opening call leaves them
abbrev opened_by : List ℕ → ℕ → List ℕ → Opened
opened_by sizes octets result = record { status = 0; sizes = put blank 0 sizes; result = length sizes ∷ octets ∷ (8 + length sizes * 2) ∷ get_or result 3 0 ∷ [] }

-- "Reading what was written … give[s] the same back"
module _ (sizes joined output result : List ℕ) (four : 0 < length result) where
  abbrev w : Wrote
  w = write (record { lengths = sizes; octets = joined }) output

  abbrev e : Recorded
  e = recorded sizes joined output result

  pub recorded-opens : e.status ≡ 0 → (sizes₀ result₀ : List ℕ) → opened (take (get_or e.result 0 0) e.output) sizes₀ result₀ ≡ opened_by sizes (length joined) result₀
  unfolding recorded written opened opened_as
  recorded-opens s sizes₀ result₀ = go w.answer refl s
    where
      go : (a : Result ℕ Reading.Refusal) → w.answer ≡ a → (written a w.output result).status ≡ 0 → opened (take (get_or (written a w.output result).result 0 0) (written a w.output result).output) sizes₀ result₀ ≡ opened_by sizes (length joined) result₀
      go (Ok n) q z = rw (get_or-set_same result 0 n 0 four, round_trips.written-reads (record { lengths = sizes; octets = joined }) output n q)
      go (Err f) q z = absurd (omega (arith, number-some f))

-- "and writing what was read, give the same back"
module _ (xs : List ℕ) (low : Octets xs) (sizes result : List ℕ) where
  abbrev o : Opened
  o = opened xs sizes result

  pub opened-records : o.status ≡ 0 → (output result₁ : List ℕ) → length xs ≤ length output
      → recorded (take (get_or o.result 0 0) o.sizes) (drop (get_or o.result 2 0) xs) output result₁ ≡ record { status = 0; output = put output 0 xs; result = set result₁ 0 (length xs) }
  unfolding opened opened_as recorded written Recording.opened
  opened-records s output result₁ room = go (read xs) refl s
    where
      go : (r : Read) → read xs ≡ r → (opened_as r sizes result).status ≡ 0
          → recorded (take (get_or (opened_as r sizes result).result 0 0) (opened_as r sizes result).sizes) (drop (get_or (opened_as r sizes result).result 2 0) xs) output result₁
          ≡ record { status = 0; output = put output 0 xs; result = set result₁ 0 (length xs) }
      go (refused f) q z = absurd (omega (arith, number-some f))
      go (good t) q z =
          let O = opens_good xs (Recording.opened (good t)) _ (ap Recording.opened (sym q)) refl in
          let front : take (length t.lengths) (put blank 0 t.lengths) ≡ t.lengths = read_back blank (put blank 0 t.lengths) t.lengths refl in
          let same : O.recording ≡ t = cc in
          let behind : drop (8 + length t.lengths * 2) xs ≡ t.octets = O.octets ∙ ap (λ (r : Recording). r.octets) same in
          rw (front, behind, round_trips.read-writes xs low t q output room)

-- the reported count of messages is at most the limit
pub played-within : (recording : List ℕ) (limit : ℕ) (pool : List ℕ) (r : Results) (result : List ℕ) → (played recording limit pool r result).status ≡ 0 → get_or (played recording limit pool r result).result 0 0 ≤ limit
unfolding played played_as
played-within recording limit pool r result s = go (play recording limit pool r).answer refl s
  where
    number : (q : Refusal) → Call.refusal_number q ≡ 0 → get_or result 0 0 ≤ limit
    number (Unreadable f) z = absurd (omega (arith, number-some f))
    number PoolSize z = absurd (omega arith)
    number ShortOutput z = absurd (omega arith)

    go : (a : Result Playing.Played Playback.Refusal) → (play recording limit pool r).answer ≡ a → (played_as a (play recording limit pool r).pool (play recording limit pool r).results result).status ≡ 0
        → get_or (played_as a (play recording limit pool r).pool (play recording limit pool r).results result).result 0 0 ≤ limit
    go (Ok p) q z = within-limit recording limit pool r p q
    go (Err f) q z = number f z
