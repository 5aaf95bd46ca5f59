-- What a cancel, a segment or an end does to a row and its cell (document 01, "One row"), and how a call answers it.
use Rattle.std.specs.Prelude.{◌≡◌, Bool, cond, ◌&&◌, ◌||◌, List, ℕ, ◌+◌, length, set, Some, None}
use Rattle.std.proofs.Math.Option.{Option, none, some}
use Rattle.octets.specs.Octets.{put}
use Rattle.pieces.specs.declared.Order.{Order}
use Rattle.pieces.specs.Pieces.{has_all, joined}
use Rattle.row.specs.declared.Row.{Row}
use Rattle.row.specs.declared.Verdict.{Verdict}
use Rattle.row.specs.declared.Verdict.TheVariants.{Stays, Abandons, Accepts}
use Rattle.row.specs.declared.Phase.TheVariants.{Open, Done, Cancelled, Abandoned}
use Rattle.row.specs.Row.{indexes_of, lengths_of, empty_row, is_live, judge}
use Rattle.reassembly.specs.declared.Taken.{Taken}
use Rattle.reassembly.specs.Delivery.{Delivery}

-- a cancel: Free becomes Cancelled too
unfoldable pub cancelled : Row → Row
cancelled r = cond (is_live r.phase) (empty_row Cancelled) r

-- an end makes i the final index
abbrev pub last_after : ℕ → ℕ → Bool → ℕ
last_after last i ending = cond ending i last

unfoldable pub with_piece : Row → Bool → ℕ → ℕ → Row
with_piece r ending i n =
    record {
      phase = Open;
      known = r.known || ending;
      last = last_after r.last i ending;
      held = r.held + 1;
      indexes = set r.indexes r.held i;
      lengths = set r.lengths r.held n;
    }

-- ---- a complete row

-- the final index is known, and every index up to it is held
unfoldable pub complete : Row → Bool
complete r = r.known && has_all (r.last + 1) (indexes_of r)

unfoldable pub bundle_of : Order → Row → List ℕ → List ℕ
bundle_of order r cell = joined order (r.last + 1) (indexes_of r) (lengths_of r) cell

-- what a message leaves of a row and its cell, and the bundle that it hands out
pub record Outcome : Type 0 where
  pub row : Row
  pub cell : List ℕ
  pub bundle : Option (List ℕ)

abbrev pub silent : Row → List ℕ → Outcome
silent r cell = record { row = r; cell = cell; bundle = none }

-- a complete row hands out its bundle and is done
unfoldable pub settle : Order → Row → List ℕ → Outcome
settle order r cell = record { row = cond (complete r) (empty_row Done) r; cell = cell; bundle = cond (complete r) (some (bundle_of order r cell)) none }

unfoldable pub carry_out : Order → Verdict → Bool → ℕ → List ℕ → Row → List ℕ → Outcome
carry_out order Stays ending i d r cell = silent r cell
carry_out order Abandons ending i d r cell = silent (empty_row Abandoned) cell
carry_out order (Accepts at) ending i d r cell = settle order (with_piece r ending i (length d)) (put cell at d)

-- a segment (ending false) or an end (ending true) with index i and data d
unfoldable pub piece_step : Order → Bool → ℕ → List ℕ → Row → List ℕ → Outcome
piece_step order ending i d r cell = carry_out order (judge r ending i (length d)) ending i d r cell

unfoldable pub cancel_step : Row → List ℕ → Outcome
cancel_step r cell = silent (cancelled r) cell

unfoldable pub delivery_of : Option (List ℕ) → Delivery
delivery_of none = None
delivery_of (some bundle) = Some (length bundle)

unfoldable pub written : Option (List ℕ) → List ℕ → List ℕ
written none out = out
written (some bundle) out = put out 0 bundle

-- a call's answer, cell and output are those of an outcome
pub record Answers (o : Outcome) (out : List ℕ) (r : Taken) (cell' out' : List ℕ) : Type 0 where
  pub row : r.row ≡ o.row
  pub delivery : r.delivery ≡ delivery_of o.bundle
  pub cell : cell' ≡ o.cell
  pub output : out' ≡ written o.bundle out
