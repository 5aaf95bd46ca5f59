-- The refusals of a playback in their order, as a table; a refused call changes nothing; no more messages are treated than the limit.
use mathlib.Core.Path.{◌≡◌, refl, sym, ap, ◌∙◌}
use mathlib.Core.Bool.{Bool, true, false, cond, not, ◌||◌}
use mathlib.Core.Option.{Option, none, some}
use mathlib.Core.List.{List, [], ◌∷◌, ◌++◌}
use Prim.Native.Nat.{ℕ, ◌*◌, ◌≤◌}
use native.Mathlib.Omega.{arith}
use lib.ListN.{length, take, length-take}
use lib.Dec.{ltb, eqb}
use Rattle.wire.specs.declared.Version.TheVariants.{Draft02}
use Rattle.octets.proofs.Cases.{first, numbered, first_some, first-none}
use Rattle.pieces.specs.Pieces.{bundle_max}
use Rattle.rows.specs.Message.{draft}
use Rattle.recording.specs.Recording as Recording
use Rattle.recording.specs.Recording.{Read, refused, good, read, frames_max, octets_max}
use Rattle.recording.proofs.Refusals.{number-some, read_number, read_cases, read-in_order}
use Rattle.frames.specs.Frames.{frames_of}
use Rattle.std.specs.Prelude.{Result, Ok, Err}
use Rattle.playback.specs.declared.Played.{Played}
use Rattle.playback.specs.declared.Refusal.{Refusal}
use Rattle.playback.specs.declared.Refusal.TheVariants.{PoolSize, ShortOutput}
use Rattle.playback.specs.Playback.{all_messages, played}
use Rattle.playback.specs.Call.{refusal_number, bundles_max, play_window, Results, Reply, reply, answered, played_fresh, unlent, replied, play_frames, play_read, play}

unfoldable pub play_number : Result Played Refusal → ℕ
play_number (Ok played) = 0
play_number (Err q) = refusal_number q

-- document 02's table: "fewer are 24; first the reader's numbers, then 2 for the pool"
abbrev pub lent_cases : List ℕ → Results → List (ℕ × Bool)
lent_cases pool r =
    (2, not (eqb (length pool) (play_window * bundle_max)))
    ∷ (24, ltb (length r.output) octets_max || (ltb (length r.lengths) bundles_max || (ltb (length r.places) frames_max || ltb (length r.reasons) frames_max)))
    ∷ []

abbrev pub play_cases : List ℕ → List ℕ → Results → List (ℕ × Bool)
play_cases recording pool r = read_cases recording ++ lent_cases pool r

lent_order : (wrong few : Bool) (pool : List ℕ) (r : Results) (p : Reply) → play_number p.answer ≡ 0
    → play_number (replied (cond wrong (some PoolSize) (cond few (some ShortOutput) none)) pool r p).answer ≡ cond wrong 2 (cond few 24 0)
unfolding replied play_number
lent_order true f pool r p e = refl
lent_order false true pool r p e = refl
lent_order false false pool r p e = e

module _ (recording : List ℕ) (limit : ℕ) (pool : List ℕ) (r : Results) where
  lent-in_order : (t : Recording.Recording) → play_number (play_frames t limit pool r).answer ≡ first (lent_cases pool r)
  unfolding play_frames unlent play_number first
  lent-in_order t =
      lent_order (not (eqb (length pool) (play_window * bundle_max)))
      (ltb (length r.output) octets_max || (ltb (length r.lengths) bundles_max || (ltb (length r.places) frames_max || ltb (length r.reasons) frames_max)))
      pool r (answered (played_fresh limit pool (frames_of t.lengths t.octets)) r) refl

  read_first : (o : Read) → read recording ≡ o → play_number (play_read o limit pool r).answer ≡ first (play_cases recording pool r)
  unfolding play_read play_number read_number numbered
  read_first (refused q) e =
      let n : Recording.refusal_number q ≡ first (read_cases recording) = sym (ap read_number e) ∙ read-in_order recording in
      n ∙ sym (first_some (read_cases recording) (lent_cases pool r) (omega (arith, number-some q)))
  read_first (good t) e =
      let z : first (read_cases recording) ≡ 0 = sym (read-in_order recording) ∙ ap read_number e in
      lent-in_order t ∙ sym (first-none (read_cases recording) (lent_cases pool r) refl z)

  pub play-in-order : play_number (play recording limit pool r).answer ≡ first (play_cases recording pool r)
  play-in-order = read_first (read recording) refl

-- a call that is refused gives back all that was lent as it was
pub play-refused : (recording : List ℕ) (limit : ℕ) (pool : List ℕ) (r : Results) (q : Refusal) → (play recording limit pool r).answer ≡ Err q → play recording limit pool r ≡ reply (Err q) pool r
unfolding play_read play_frames replied
play-refused recording limit pool r q = go (read recording)
  where
    lent : (o : Option Refusal) (t : Recording.Recording) → unlent pool r ≡ o → (play_frames t limit pool r).answer ≡ Err q → play_frames t limit pool r ≡ reply (Err q) pool r
    lent none t e a = absurd (let b = rw e at a in cc)
    lent (some f) t e a = let b : Err f ≡ Err q = rw e at a in rw e (ap (λ (x : Result Played Refusal). reply x pool r) b)

    go : (o : Read) → (play_read o limit pool r).answer ≡ Err q → play_read o limit pool r ≡ reply (Err q) pool r
    go (refused f) a = ap (λ (x : Result Played Refusal). reply x pool r) a
    go (good t) a = lent (unlent pool r) t refl a

-- "count in the result equals the definition's treated messages and is at most the limit"
pub within-limit : (recording : List ℕ) (limit : ℕ) (pool : List ℕ) (r : Results) (p : Played)
    → (play recording limit pool r).answer ≡ Ok p → p.messages ≤ limit
unfolding play_read play_frames replied played
within-limit recording limit pool r p = go (read recording)
  where
    lent : (o : Option Refusal) (t : Recording.Recording) → unlent pool r ≡ o → (play_frames t limit pool r).answer ≡ Ok p → p.messages ≤ limit
    lent (some f) t e a = absurd (let b = rw e at a in cc)
    lent none t e a =
        let b = rw e at a in
        let all = all_messages (draft Draft02) (frames_of t.lengths t.octets) in
        let n : length (take limit all) ≡ p.messages = cc in
        omega (arith, length-take limit all)

    go : (o : Read) → (play_read o limit pool r).answer ≡ Ok p → p.messages ≤ limit
    go (refused f) a = absurd (cc)
    go (good t) a = lent (unlent pool r) t refl a
