-- `playback::play_buffered` meets its contract.
use mathlib.Core.Path.{sym}
use Rattle.frames.specs.Frames.{frames_of}
use Rattle.playback.specs.Playback.{Playback}
use Rattle.playback.specs.Call.{Results, results, played_fresh}
use Rattle.playback.proofs.Fresh.{front_length, copied}
use Rattle.playback.proofs.play_buffered.Goals.{After-play_frames-reached}
use Rattle.playback.proofs.play_buffered.Goals as goal

-- what is played, and the memory lent for it
module _ (c : After-play_frames-reached) where
  abbrev playback : Playback
  playback = let a = c.args in played_fresh a.limit a.pool.now (frames_of a.frames.sizes.now a.frames.octets.now)

  abbrev lent : Results
  lent = let a = c.args in results a.output.now a.lengths.now a.places.now a.reasons.now

pub returns : goal.returns
returns c =
    copied (playback (goal.at.returns c).After-play_frames-reached) c.args.buffer.now (lent (goal.at.returns c).After-play_frames-reached) _ _ _ _ _ _ _ _ _ c.play_frames-reached.ensures.0 _ c.copy_into.ensures
