-- What one message does to a board: first its window, then the row of its number (document 01, "Transfer window" and "One row").
-- Over the draft and over the window size w.
use Rattle.std.specs.Prelude.{true, false, cond, List, [], ◌∷◌, ℕ, suc, ◌*◌, get_or, take, drop, set, None, Some}
use Rattle.std.proofs.Math.Option.{Option, none, some}
use Rattle.octets.specs.Octets.{put}
use Rattle.wire.specs.Frame.{Item, items, scanned, from}
use Rattle.wire.specs.Message as Wire
use Rattle.wire.specs.Message.{Message, skipped, bundle, segment, last, cancel}
use Rattle.wire.specs.Layout as Layout
use Rattle.wire.specs.declared.Version.{Version}
use Rattle.wire.specs.declared.Version.TheVariants.{Draft00, Draft02}
use Rattle.window.specs.declared.Standing.{Standing}
use Rattle.window.specs.declared.Standing.TheVariants.{Inside, New, Outside}
use Rattle.window.specs.Window.{standing_of, row_of, enters}
use Rattle.pieces.specs.declared.Order.{Order}
use Rattle.pieces.specs.declared.Order.TheVariants.{Rising, Falling}
use Rattle.row.specs.declared.Row.{Row}
use Rattle.row.specs.declared.Phase.TheVariants.{Free}
use Rattle.reassembly.specs.Rules as Rules
use Rattle.pieces.specs.Pieces.{bundle_max}
use Rattle.row.specs.Row.{empty_row}
use Rattle.reassembly.specs.Rules.{piece_step, cancel_step}
use Rattle.rows.specs.declared.State.{State}
use Rattle.rows.specs.Origin.{Origin}

-- A draft of the protocol: how a message is read, and the order of index in which pieces are joined.
pub record Draft : Type 0 where
  pub read : List ℕ → Wire.Read
  pub order : Order

-- Draft 02 joins "in rising order of index" (document 01); in draft 00 "joining falls" (document 02, E5).
abbrev pub order_of : Version → Order
order_of Draft00 = Falling
order_of Draft02 = Rising

-- document 000; and document 003, as document 01 narrows it
abbrev pub draft : Version → Draft
draft v = record { read = Layout.read v; order = order_of v }

-- the draft of a receiver
abbrev pub draft_of : State → Draft
draft_of s = draft s.settings.version

-- the messages of a frame from a place on
unfoldable pub messages_from : Draft → List ℕ → ℕ → List Item
messages_from D frame place = from place (items (scanned D.read frame))

-- a receiver's state and the pool lent to it
pub record Board : Type 0 where
  pub state : State
  pub pool : List ℕ

-- a bundle that is handed out: of a bundle message, or of a transfer with its number
pub record Handed : Type 0 where
  pub origin : Origin
  pub octets : List ℕ

pub record Outcome : Type 0 where
  pub board : Board
  pub handed : Option Handed

-- octets 4096 times the row, up to 4,095 further
unfoldable pub cell_at : List ℕ → ℕ → List ℕ
cell_at pool r = take bundle_max (drop (r * bundle_max) pool)

unfoldable pub put_cell : List ℕ → ℕ → List ℕ → List ℕ
put_cell pool r cell = put pool (r * bundle_max) cell

unfoldable pub handed_of : Origin → Option (List ℕ) → Option Handed
handed_of origin none = none
handed_of origin (some octets) = some (record { origin = origin; octets = octets })

abbrev pub unchanged : Board → Outcome
unchanged b = record { board = b; handed = none }

module _ (w : ℕ) where
  -- the rows from r on, those of the d numbers after g Free
  unfoldable pub freed_from : ℕ → ℕ → ℕ → List Row → List Row
  freed_from r g d [] = []
  freed_from r g d (x ∷ xs) = cond (enters w g d r) (empty_row Free) x ∷ freed_from (suc r) g d xs

  -- G becomes t, and the rows of the d numbers that entered become Free; the pool's octets stay
  unfoldable pub moved : Board → ℕ → ℕ → Board
  moved b t d = record { state = record { present = true; greatest = t; rows = freed_from 0 b.state.greatest d b.state.rows; settings = b.state.settings }; pool = b.pool }

  -- the row that number t owns and its cell, as the row rules leave them
  unfoldable pub in_row : (Row → List ℕ → Rules.Outcome) → Board → ℕ → Outcome
  in_row rule b t =
      let r : ℕ = row_of w t in
      let o : Rules.Outcome = rule (get_or b.state.rows r (empty_row Free)) (cell_at b.pool r) in
      record {
        board = record {
          state = record { present = b.state.present; greatest = b.state.greatest; rows = set b.state.rows r o.row; settings = b.state.settings };
          pool = put_cell b.pool r o.cell;
        };
        handed = handed_of (Some t) o.bundle;
      }

  -- a transfer message with number t, by how t stands to the window
  unfoldable pub treat_transfer : Standing → (Row → List ℕ → Rules.Outcome) → Board → ℕ → Outcome
  treat_transfer Inside rule b t = in_row rule b t
  treat_transfer (New d) rule b t = in_row rule (moved b t d) t
  treat_transfer Outside rule b t = unchanged b

  abbrev pub transfer : (Row → List ℕ → Rules.Outcome) → Board → ℕ → Outcome
  transfer rule b t = treat_transfer (standing_of w b.state.present b.state.greatest t) rule b t

  -- a bundle message hands out its content each time it comes
  unfoldable pub step : Order → Board → Message → Outcome
  step order b skipped = unchanged b
  step order b (bundle content) = record { board = b; handed = handed_of None (some content) }
  step order b (segment t i d) = transfer (piece_step order false i d) b t
  step order b (last t i d) = transfer (piece_step order true i d) b t
  step order b (cancel t) = transfer cancel_step b t
