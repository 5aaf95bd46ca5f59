-- The calls on recordings, as the exported functions report them.
use mathlib.Core.Path.{◌≡◌, refl, sym, ap, ◌∙◌}
use mathlib.Core.List.{List, [], ◌∷◌}
use Rattle.std.specs.Prelude.{Result, Ok, Err}
use Prim.Native.Nat.{ℕ, ◌+◌, ◌*◌}
use lib.ListN.{length, get_or}
use Rattle.octets.specs.Octets.{put}
use Rattle.recording.specs.declared.Refusal.{Refusal}
use Rattle.recording.specs.declared.Opened.{Opened}
use Rattle.recording.specs.Recording as Recording
use Rattle.recording.specs.Recording.{Read, refused, good, read, blank, refusal_number, Wrote, write}
use Rattle.recording.proofs.Opens.{opens_not}
use Rattle.playback.specs.declared.Played.{Played}
use Rattle.playback.specs.declared.Refusal as Playback
use Rattle.playback.specs.Call.{Results, Reply, reply, play}
use Rattle.board.specs.Recordings.{written, recorded, opened_as, opened, played_as, played}

pub recorded-by : (answer : Result ℕ Refusal) (output sizes joined output₀ result : List ℕ) → ◌≡◌ {A = Wrote} (record { answer = answer; output = output }) (write (record { lengths = sizes; octets = joined }) output₀)
    → written answer output result ≡ recorded sizes joined output₀ result
unfolding recorded
recorded-by answer output sizes joined output₀ result e = ap (λ (w : Wrote). written w.answer w.output result) e

module _ (xs : List ℕ) (answer : Result Opened Refusal) (e : answer ≡ Recording.opened (read xs)) (sizes result : List ℕ) where
  pub opened-good : (o : Opened) → answer ≡ Ok o → record { status = 0; sizes = o.lengths; result = o.frames ∷ o.octets ∷ (8 + o.frames * 2) ∷ get_or result 3 0 ∷ [] } ≡ opened xs sizes result
  unfolding opened opened_as Recording.opened
  opened-good o a = go (read xs) e
    where
      go : (r : Read) → answer ≡ Recording.opened r → record { status = 0; sizes = o.lengths; result = o.frames ∷ o.octets ∷ (8 + o.frames * 2) ∷ get_or result 3 0 ∷ [] } ≡ opened_as r sizes result
      go (refused f) q = let b : Recording.opened (refused f) ≡ Ok o = sym q ∙ a in absurd (cc)
      go (good t) q =
          let b : Recording.opened (good t) ≡ Ok o = sym q ∙ a in
          let same : o ≡ record { lengths = put blank 0 t.lengths; frames = length t.lengths; octets = length t.octets } = cc in
          rw same refl

  pub opened-not : (f : Refusal) → answer ≡ Err f → record { status = refusal_number f; sizes = sizes; result = result } ≡ opened xs sizes result
  unfolding opened opened_as
  opened-not f a = rw (opens_not xs answer f e a)

pub played-by : (answer : Result Played Playback.Refusal) (pool : List ℕ) (r : Results) (xs : List ℕ) (limit : ℕ) (pool₀ : List ℕ) (r₀ : Results) (result : List ℕ) → reply answer pool r ≡ play xs limit pool₀ r₀
    → played_as answer pool r result ≡ played xs limit pool₀ r₀ result
unfolding played
played-by answer pool r xs limit pool₀ r₀ result e = ap (λ (p : Reply). played_as p.answer p.pool p.results result) e
