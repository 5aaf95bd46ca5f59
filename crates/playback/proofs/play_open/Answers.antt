-- `playback::play_open` meets its contract.
use mathlib.Core.Path.{◌≡◌, refl}
use mathlib.Core.Option.{Option, some, none}
use Rattle.std.proofs.lemmas.Grind.{common_steps}
use Rattle.std.proofs.Common.{arith}
use Rattle.playback.specs.declared.Refusal.{Refusal}
use Rattle.playback.specs.declared.Refusal.TheVariants.{PoolSize, ShortOutput}
use Rattle.playback.specs.Call.{results, unlent, replied, play_frames}
use Rattle.playback.proofs.play_open.Goals as goal
use Rattle.playback.proofs.play_open.Goals.{Start, then-output-lt-OCTETS_MAX-via-then-output-lt-OCTETS_MAX, then-output-lt-OCTETS_MAX-via-else-output-lt-OCTETS_MAX+then-lengths-lt-BUNDLES_MAX, then-output-lt-OCTETS_MAX-via-else-output-lt-OCTETS_MAX+else-lengths-lt-BUNDLES_MAX+then-places-lt-FRAMES_MAX, then-output-lt-OCTETS_MAX-via-else-output-lt-OCTETS_MAX+else-lengths-lt-BUNDLES_MAX+else-places-lt-FRAMES_MAX+then-reasons-lt-FRAMES_MAX}

-- what was found of the memory that was lent
abbrev found : Start → Option Refusal
found c = let a = c.args in unlent a.pool.now (results a.output.now a.lengths.now a.places.now a.reasons.now)

pub returns-then-pool-ne-POOL : goal.returns-then-pool-ne-POOL
unfolding play_frames unlent replied
returns-then-pool-ne-POOL c =
    let e : found (goal.at.returns-then-pool-ne-POOL c).Start ≡ some PoolSize = grind (arith, common_steps, c.if-pool-ne-POOL.true) in
    rw e refl

pub returns-then-output-lt-OCTETS_MAX : goal.returns-then-output-lt-OCTETS_MAX
unfolding play_frames unlent replied
returns-then-output-lt-OCTETS_MAX c =
    let e : found (goal.at.returns-then-output-lt-OCTETS_MAX c).Start ≡ some ShortOutput =
    elim c.then-output-lt-OCTETS_MAX.branch [
      | then-output-lt-OCTETS_MAX-via-then-output-lt-OCTETS_MAX w ↦ grind (arith, common_steps)
      | then-output-lt-OCTETS_MAX-via-else-output-lt-OCTETS_MAX+then-lengths-lt-BUNDLES_MAX w ↦ grind (arith, common_steps)
      | then-output-lt-OCTETS_MAX-via-else-output-lt-OCTETS_MAX+else-lengths-lt-BUNDLES_MAX+then-places-lt-FRAMES_MAX w ↦ grind (arith, common_steps)
      | then-output-lt-OCTETS_MAX-via-else-output-lt-OCTETS_MAX+else-lengths-lt-BUNDLES_MAX+else-places-lt-FRAMES_MAX+then-reasons-lt-FRAMES_MAX w ↦ grind (arith, common_steps)
    ]
    in
    rw e refl

pub returns : goal.returns
unfolding play_frames unlent replied
returns c =
    let e : found (goal.at.returns c).Start ≡ none = grind (arith, common_steps) in
    rw e c.play_buffered.ensures
