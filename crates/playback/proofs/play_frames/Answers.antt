-- `playback::play_frames` meets its contract.
use mathlib.Core.Path.{◌≡◌, refl, ap, ◌∙◌}
use mathlib.Core.List.{[], ◌∷◌}
use native.Mathlib.Omega.{arith}
use Rattle.wire.specs.declared.Version.TheVariants.{Draft02}
use Rattle.window.specs.Window.{sixteen}
use Rattle.rows.specs.State.{fresh}
use Rattle.std.proofs.Common.{Ok}
use Rattle.receiver.specs.Receive.{start}
use Rattle.receiver.proofs.Ready.{fresh-ready}
use Rattle.frames.specs.Frames.{Reach}
use Rattle.playback.specs.Call.{play_window, results}
use Rattle.playback.proofs.Fresh.{left, fits}
use Rattle.playback.proofs.play_frames.Goals.{After-unwrap-state}
use Rattle.playback.proofs.play_frames.Goals as goal

-- the window of a playback is one
pub unwrap-state-requires : goal.unwrap-state-requires
unfolding start
unwrap-state-requires c = rw c.start_as.ensures refl

fresh_start : (c : After-unwrap-state) → c.unwrap-state.result ≡ fresh Draft02 play_window
unfolding start
fresh_start c = let made : c.start_as.result ≡ Ok (fresh Draft02 play_window) = c.start_as.ensures in cc

pub run_frames-requires : goal.run_frames-requires
unfolding fresh
run_frames-requires c =
    let E = c.requires.0 in
    rw (fresh_start (goal.at.run_frames-requires c).After-unwrap-state, c.begun.ensures)
    (record { sound = (fresh-ready play_window sixteen Draft02 c.args.pool.now E.pooled).sound; pooled = E.pooled; used = omega arith }, E.sum, omega (arith, E.few))

pub returns : goal.returns
unfolding fresh
returns c =
    let a = c.args in
    let e = rw (fresh_start (goal.at.returns c).After-unwrap-state, c.begun.ensures) at c.run_frames.ensures in
    let f = fits a.frames.sizes.now a.frames.octets.now a.limit a.pool.now (results a.buffer.now a.lengths.now a.places.now a.reasons.now) (0 ∷ []) c.requires.0 c.requires.1 in
    (ap left e ∙ f.0, rw (ap (λ (x : Reach). x.run.progress.used) e) f.1)
