-- `playback::play` meets its contract.
use mathlib.Core.Path.{refl, sym, ap, ◌∙◌}
use native.Mathlib.Omega.{arith}
use lib.ListN.{length}
use Rattle.std.proofs.lemmas.Result.{err_from_is_err_and}
use Rattle.recording.specs.Recording.{Recording}
use Rattle.recording.proofs.Opens.{Opens, opens_good, opens_not, from_parts}
use Rattle.playback.specs.Call.{results, play_frames, play_read}
use Rattle.playback.proofs.play.Goals as goal
use Rattle.playback.proofs.play.Goals.{In_ok-opened}

-- a recording that was opened
opened : (c : In_ok-opened) → Opens c.args.recording.now c.in_ok-opened.opened.frames c.in_ok-opened.opened.lengths
opened c = opens_good c.args.recording.now _ _ c.open.ensures c.in_ok-opened.was

pub returns-in_err-opened : goal.returns-in_err-opened
unfolding play_read
returns-in_err-opened c =
    let p = err_from_is_err_and c.from_residual.result c.from_residual.ensures.1 in
    rw (p.1, p.2, opens_not c.args.recording.now _ _ c.open.ensures c.in_err-opened.was) refl

pub octets_of-octets-requires : goal.octets_of-octets-requires
octets_of-octets-requires c = (opened (goal.at.octets_of-octets-requires c).In_ok-opened).there

pub shared_ref_as_front-sizes : goal.shared_ref_as_front-sizes
shared_ref_as_front-sizes c = (opened (goal.at.shared_ref_as_front-sizes c).In_ok-opened).few

pub play_open-requires : goal.play_open-requires
play_open-requires c =
    let O = opened (goal.at.play_open-requires c).In_ok-opened in
    rw (O.lengths, c.octets_of-octets.ensures ∙ O.octets) (omega (arith, O.frames, O.few), omega (arith, O.sum), O.small)

pub returns : goal.returns
unfolding play_read
returns c =
    let a = c.args in
    let O = opened (goal.at.returns c).In_ok-opened in
    let same = from_parts O _ c.octets_of-octets.ensures in
    rw O.means (c.play_open.ensures ∙ ap (λ (t : Recording). play_frames t a.limit a.pool.now (results a.output.now a.lengths.now a.places.now a.reasons.now)) same)
