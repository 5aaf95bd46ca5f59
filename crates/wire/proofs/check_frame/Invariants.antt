-- `wire::check_frame` meets its contract. The loop's invariant: what the whole frame is judged is what the rest of it, with the places
-- seen so far, is judged.
use mathlib.Core.Path.{◌≡◌}
use Prim.Native.Nat.{◌-◌, ◌≤◌}
use lib.ListN.{length}
use Rattle.wire.specs.Layout.{read}
use Rattle.wire.specs.Frame.{judged, checked}
use Rattle.wire.proofs.Scanning.{scan_at}
use Rattle.wire.proofs.check_frame.Given as goal

abbrev pub invariant-loop-at : goal.invariant-loop-at
invariant-loop-at l =
    (l.at ≤ length l.frame) × (checked (read l.version) l.frame l.place ≡ judged l.seen l.place (scan_at (read l.version) l.frame l.at))

abbrev pub decreases-loop-at : goal.decreases-loop-at
decreases-loop-at l = length l.frame - l.at
