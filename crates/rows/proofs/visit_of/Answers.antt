-- `rows::visit_of` meets its contract.
use native.Mathlib.Omega.{arith}
use lib.ListN.{length}
use Rattle.wire.specs.Layout.{message}
use Rattle.rows.specs.Visit.{visit_of}
use Rattle.rows.proofs.Fits.{segment-long, end-long, cancel-long}
use Rattle.rows.proofs.visit_of.Goals as goal

pub number_at-requires : goal.number_at-requires
number_at-requires c = omega (arith, segment-long c.args.kind (length c.args.content.now) c.requires.1 c.in-Segment.is)

pub number_at-requires-in-End : goal.number_at-requires-in-End
number_at-requires-in-End c = omega (arith, end-long c.args.kind (length c.args.content.now) c.requires.1 c.in-End.is)

pub number_at-requires-in-Cancel : goal.number_at-requires-in-Cancel
number_at-requires-in-Cancel c = omega (arith, cancel-long c.args.kind (length c.args.content.now) c.requires.1 c.in-Cancel.is)

pub returns-in-Skipped : goal.returns-in-Skipped
unfolding visit_of message
returns-in-Skipped c = rw c.in-Skipped.is c.stay.ensures

pub returns-in-Bundle : goal.returns-in-Bundle
unfolding visit_of message
returns-in-Bundle c = rw c.in-Bundle.is c.stay-in-Bundle.ensures

pub returns-in-Segment : goal.returns-in-Segment
unfolding visit_of message
returns-in-Segment c = rw c.in-Segment.is (rw c.number_at.ensures at c.transfer_visit.ensures)

pub returns-in-End : goal.returns-in-End
unfolding visit_of message
returns-in-End c = rw c.in-End.is (rw c.number_at-in-End.ensures at c.transfer_visit-in-End.ensures)

pub returns-in-Cancel : goal.returns-in-Cancel
unfolding visit_of message
returns-in-Cancel c = rw c.in-Cancel.is (rw c.number_at-in-Cancel.ensures at c.transfer_visit-in-Cancel.ensures)
