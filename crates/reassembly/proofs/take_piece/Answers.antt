-- `reassembly::take_piece` meets its contract. By the verdict; an accepted piece has room in the row and in the cell.
use mathlib.Core.Path.{◌≡◌, refl, sym, ◌∙◌}
use native.Mathlib.Omega.{arith}
use lib.ListN.{length}
use Rattle.octets.specs.Octets.{sum_of}
use Rattle.row.proofs.Sound.{sound_facts}
use Rattle.row.proofs.Judging.{Accepted, accepted}
use Rattle.row.proofs.Shaped.{Shaped}
use Rattle.row.specs.Row.{lengths_of}
use Rattle.reassembly.proofs.Kept.{Joinable, joinable}
use Rattle.reassembly.specs.Rules.{with_piece, carry_out, piece_step, delivery_of, written}
use borrow.Author.Rules.{rules}
use Rattle.reassembly.proofs.take_piece.Goals as goal
use Rattle.reassembly.proofs.take_piece.Goals.{After-accept-arg-1}

shaped : (c : After-accept-arg-1) → Shaped c.args.row
shaped c = record { indexes64 = search rules; lengths64 = search rules }

taken : (c : After-accept-arg-1) →
    let a = c.args in
    Accepted a.row a.ending a.index (length a.payload.now) × (c.in-Accepts.at ≡ sum_of (lengths_of a.row))
taken c = accepted _ _ _ _ _ (sym c.judge.ensures ∙ c.in-Accepts.is)

next : (c : After-accept-arg-1) →
    let a = c.args in
    Joinable (with_piece a.row a.ending a.index (length a.payload.now))
next c = joinable _ _ _ _ (sound_facts _ c.requires.0) (shaped c) (taken c).0

pub overflow_cast-index : goal.overflow_cast-index
overflow_cast-index c = omega (arith, (taken (goal.at.overflow_cast-index c).After-accept-arg-1).0.low)

pub accept-requires : goal.accept-requires
unfolding with_piece
accept-requires c =
    let p = c.requires in
    let a = taken (goal.at.accept-requires c).After-accept-arg-1 in
    let j = next (goal.at.accept-requires c).After-accept-arg-1 in
    record { held_bound = (omega (arith, j.few), omega (arith, a.0.fits, a.1), p.1, p.2); ending_bound = (j.last, j.fits) }

pub returns-in-Stays : goal.returns-in-Stays
unfolding piece_step carry_out delivery_of written
returns-in-Stays c =
    rw (← c.judge.ensures, c.in-Stays.is) (record { row = refl; delivery = refl; cell = refl; output = refl })

pub returns-in-Abandons : goal.returns-in-Abandons
unfolding piece_step carry_out delivery_of written
returns-in-Abandons c =
    rw (← c.judge.ensures, c.in-Abandons.is) (record { row = c.empty_row.ensures; delivery = refl; cell = refl; output = refl })

pub returns-in-Accepts : goal.returns-in-Accepts
unfolding piece_step carry_out
returns-in-Accepts c = rw (← c.judge.ensures, c.in-Accepts.is) c.accept.ensures
