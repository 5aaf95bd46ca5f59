-- `recording::open` meets its contract.
use Rattle.std.proofs.lemmas.Result.{err_from_is_err_and}
use Rattle.octets.specs.Octets.{pairs, put}
use Rattle.octets.proofs.Put.{put_reaches}
use Rattle.recording.specs.Recording.{frames_max, octets_max, blank, opened}
use Rattle.recording.proofs.Lengths.{lengths_front}
use Rattle.recording.proofs.Reading.{Count, Counted, count-ok, no_frames, no_octets, cut_short, counts, unevenly, left, opens, opened-parts}
use Rattle.octets.proofs.Pairs.{length_pairs, pairs-part}
use mathlib.Core.Path.{◌≡◌, refl, sym, ◌∙◌}
use Prim.Native.Nat.{◌+◌, ◌-◌, ◌*◌}
use native.Mathlib.Omega.{arith}
use borrow.Author.Rules.{rules}
use lib.ListN.{drop, length-take, length-drop}
use Rattle.recording.proofs.open.Goals.{After-read_pairs-lengths, In_ok-frames, In_ok-octets, Else-size-end}
use Rattle.recording.proofs.open.Goals as goal

frames : (c : goal.In_ok-frames) → Count c.args.recording.now 0 frames_max c.in_ok-frames.frames
frames c = count-ok c.args.recording.now 0 frames_max _ (sym c.count_at.ensures ∙ c.in_ok-frames.was)

octets : (c : goal.In_ok-octets) → Count c.args.recording.now (4 + c.in_ok-frames.frames * 2) octets_max c.in_ok-octets.octets
octets c =
    let count : c.octets_start-start.result - 4 ≡ 4 + c.in_ok-frames.frames * 2 = omega arith in
    count-ok c.args.recording.now _ octets_max _ (sym (rw count at c.count_at-2.ensures) ∙ c.in_ok-octets.was)

pub returns-in_err-frames : goal.returns-in_err-frames
unfolding opened
returns-in_err-frames c =
    let p = err_from_is_err_and c.from_residual.result c.from_residual.ensures.1 in
    rw (p.1, p.2, no_frames c.args.recording.now _ (sym c.count_at.ensures ∙ c.in_err-frames.was)) refl

pub octets_start-start-requires : goal.octets_start-start-requires
octets_start-start-requires c = let F = frames c in omega arith

pub count_at-requires-2 : goal.count_at-requires-2
count_at-requires-2 c = let F = frames (goal.at.count_at-requires-2 c).In_ok-frames in omega arith

pub returns-in_err-octets : goal.returns-in_err-octets
unfolding opened
returns-in_err-octets c =
    let p = err_from_is_err_and c.from_residual-in_err-octets.result c.from_residual-in_err-octets.ensures.1 in
    let count : c.octets_start-start.result - 4 ≡ 4 + c.in_ok-frames.frames * 2 = omega arith in
    rw (p.1, p.2, no_octets c.args.recording.now _ (frames (goal.at.returns-in_err-octets c).In_ok-frames) _ (sym (rw count at c.count_at-2.ensures) ∙ c.in_err-octets.was)) refl

pub overflow_add-end : goal.overflow_add-end
overflow_add-end c =
    let F = frames (goal.at.overflow_add-end c).In_ok-frames in
    let O = octets c in
    omega arith

pub returns-then-size-end : goal.returns-then-size-end
unfolding opened
returns-then-size-end c =
    let F = frames (goal.at.returns-then-size-end c).In_ok-frames in
    let O = octets (goal.at.returns-then-size-end c).In_ok-octets in
    rw (cut_short c.args.recording.now _ F _ O (omega arith)) refl

pub slice_bounds-read_pairs-start : goal.slice_bounds-read_pairs-start
slice_bounds-read_pairs-start c = search rules

-- both counts are within their limits, and all that they promise is there
counted : (c : goal.Else-size-end) → Counted c.args.recording.now c.in_ok-frames.frames c.in_ok-octets.octets
counted c = counts c.args.recording.now _ (frames (goal.at.slice_bounds-read_pairs-start c).In_ok-frames) _ (octets (goal.at.slice_bounds-read_pairs-start c).In_ok-octets) (omega arith)

pub read_pairs-lengths-requires : goal.read_pairs-lengths-requires
read_pairs-lengths-requires c =
    let F = frames (goal.at.read_pairs-lengths-requires c).In_ok-frames in
    rw (length-take, length-drop) (omega (arith, F.few))

-- the lengths, with zeros behind them
table : (c : goal.After-read_pairs-lengths) → c.read_pairs-lengths.result ≡ put blank 0 (pairs c.in_ok-frames.frames (drop 4 c.args.recording.now))
unfolding blank
table c = c.read_pairs-lengths.ensures ∙ rw (pairs-part c.in_ok-frames.frames 4 (c.octets_start-start.result - 4) c.args.recording.now (omega arith) (omega arith))

pub slice_bounds-lengths-end : goal.slice_bounds-lengths-end
slice_bounds-lengths-end c =
    let lengths = pairs c.in_ok-frames.frames (drop 4 c.args.recording.now) in
    rw (table c) (omega (arith, put_reaches blank 0 lengths (omega arith), length_pairs c.in_ok-frames.frames (drop 4 c.args.recording.now)))

pub slice_bounds-weigh-end : goal.slice_bounds-weigh-end
slice_bounds-weigh-end c = rw (lengths_front _ _ _ _ (table (goal.at.slice_bounds-weigh-end c).After-read_pairs-lengths), length_pairs)

pub returns-in_err-weigh : goal.returns-in_err-weigh
unfolding opened
returns-in_err-weigh c =
    let xs = c.args.recording.now in
    let n = c.in_ok-frames.frames in
    let K = counted (goal.at.returns-in_err-weigh c).Else-size-end in
    let front = lengths_front _ _ (drop 4 xs) n (table (goal.at.returns-in_err-weigh c).After-read_pairs-lengths) in
    let p = err_from_is_err_and c.from_residual-in_err-weigh.result c.from_residual-in_err-weigh.ensures.1 in
    rw (p.1, p.2, unevenly xs n _ K _ (rw front at (sym c.weigh.ensures ∙ c.in_err-weigh.was))) refl

pub returns-then-end-size : goal.returns-then-end-size
unfolding opened
returns-then-end-size c =
    let xs = c.args.recording.now in
    let n = c.in_ok-frames.frames in
    let K = counted (goal.at.returns-then-end-size c).Else-size-end in
    let front = lengths_front _ _ (drop 4 xs) n (table (goal.at.returns-then-end-size c).After-read_pairs-lengths) in
    rw (left xs n _ K (rw front at (sym c.weigh.ensures ∙ c.in_ok-weigh.was)) (omega arith)) refl

pub returns : goal.returns
returns c =
    let xs = c.args.recording.now in
    let n = c.in_ok-frames.frames in
    let m = c.in_ok-octets.octets in
    let K = counted (goal.at.returns c).Else-size-end in
    let front = lengths_front _ _ (drop 4 xs) n (table (goal.at.returns c).After-read_pairs-lengths) in
    rw (opens xs n m K (rw front at (sym c.weigh.ensures ∙ c.in_ok-weigh.was)) (omega arith), opened-parts xs n m K, ← (table (goal.at.returns c).After-read_pairs-lengths))
