-- The message loop as the code runs it: with limits on messages and bundles, which lie one behind another in the output, each with its
-- length and its transfer number in two lists. The laws that tie it to the receiving call are in proofs/.
use Rattle.std.specs.Prelude.{◌≡◌, Bool, true, cond, ◌&&◌, List, [], ◌∷◌, ℕ, ◌+◌, ◌-◌, ◌*◌, ◌≤◌, ◌^◌, length, drop, set, ltb, leb, None, Some}
use Rattle.std.proofs.Math.Option.{Option, none, some}
use Rattle.octets.specs.Octets.{number, put}
use Rattle.wire.specs.Frame.{Item}
use Rattle.pieces.specs.declared.Order.{Order}
use Rattle.row.specs.declared.Row.{Row}
use Rattle.reassembly.specs.Delivery.{Delivery}
use Rattle.reassembly.specs.Rules as Rules
use Rattle.reassembly.specs.declared.Taken.{Taken}
use Rattle.pieces.specs.Pieces.{bundle_max}
use Rattle.reassembly.specs.Rules.{silent, piece_step, cancel_step, delivery_of}
use Rattle.rows.specs.Origin.{Origin}
use Rattle.rows.specs.declared.Act.{Act}
use Rattle.rows.specs.declared.Act.TheVariants.{Pass, HandOut, Piece, Cancel}
use Rattle.messages.specs.declared.Limits.{Limits}
use Rattle.messages.specs.declared.Progress.{Progress}
use Rattle.rows.specs.declared.State.{State}
use Rattle.rows.specs.State.{sound, window_of}
use Rattle.rows.specs.Message.{Board, Handed, Outcome, draft_of, messages_from, put_cell, step}

-- a content of n octets is long enough for what is done with it, and no longer than a bundle
abbrev pub admits : Act → ℕ → Bool
admits Pass n = true
admits HandOut n = leb n bundle_max
admits (Piece ending) n = leb 8 n
admits Cancel n = true

-- what a message with a content does to its row
unfoldable pub row_step : Order → Act → List ℕ → Row → List ℕ → Rules.Outcome
row_step order Pass content r cell = silent r cell
row_step order HandOut content r cell = record { row = r; cell = cell; bundle = some content }
row_step order (Piece ending) content r cell = piece_step order ending (number (drop 4 content)) (drop 8 content) r cell
row_step order Cancel content r cell = cancel_step r cell

-- the output with a bundle, if there is one, behind the octets used
unfoldable pub written_at : ℕ → Option (List ℕ) → List ℕ → List ℕ
written_at used none output = output
written_at used (some x) output = put output used x

-- the code's answer, pool and output are those of a row's outcome
pub record Lands (o : Rules.Outcome) (slot : ℕ) (pool₀ : List ℕ) (used : ℕ) (output₀ : List ℕ) (t : Taken) (pool₁ output₁ : List ℕ) : Type 0 where
  pub row : t.row ≡ o.row
  pub delivery : t.delivery ≡ delivery_of o.bundle
  pub pool : pool₁ ≡ put_cell pool₀ slot o.cell
  pub output : output₁ ≡ written_at used o.bundle output₀

-- ---- the loop

-- how far a run came, with the board and the output as they are then, and the entries for the bundles' lengths and numbers
pub record Run : Type 0 where
  pub board : Board
  pub output : List ℕ
  pub lengths : List ℕ
  pub numbers : List ℕ
  pub progress : Progress

abbrev pub going : State → List ℕ → List ℕ → List ℕ → List ℕ → Progress → Run
going state pool output lengths numbers progress =
    record { board = record { state = state; pool = pool }; output = output; lengths = lengths; numbers = numbers; progress = progress }

-- before the first message, at a place
abbrev pub begun : ℕ → Progress
begun place = record { treated = 0; count = 0; used = 0; next = place; origin = None }

abbrev pub size : Delivery → ℕ
size None = 0
size (Some n) = n

-- the transfer number, or 2 ^ 32 for none
abbrev pub origin_number : Origin → ℕ
origin_number None = 2 ^ 32
origin_number (Some t) = t

-- bundle k in the list of lengths and in that of numbers; a list that has no entry for it stays
abbrev pub listed : ℕ → Delivery → List ℕ → List ℕ
listed k None lengths = lengths
listed k (Some n) lengths = set lengths k n

abbrev pub numbered : ℕ → Delivery → Origin → List ℕ → List ℕ
numbered k None origin numbers = numbers
numbered k (Some n) origin numbers = set numbers k (origin_number origin)

-- a message was treated, and the next starts at `next`
unfoldable pub progressed : Progress → Delivery → ℕ → Origin → Progress
progressed p None next origin = record { treated = p.treated + 1; count = p.count; used = p.used; next = next; origin = p.origin }
progressed p (Some n) next origin = record { treated = p.treated + 1; count = p.count + 1; used = p.used + n; next = next; origin = origin }

unfoldable pub advanced : Run → Board → ℕ → Option Handed → Run
advanced p b next none = record { board = b; output = p.output; lengths = p.lengths; numbers = p.numbers; progress = progressed p.progress None next None }
advanced p b next (some h) =
    record {
      board = b;
      output = put p.output p.progress.used h.octets;
      lengths = set p.lengths p.progress.count (length h.octets);
      numbers = set p.numbers p.progress.count (origin_number h.origin);
      progress = progressed p.progress (Some (length h.octets)) next h.origin;
    }

-- fewer messages and bundles than the limits, and there is room for a bundle
abbrev pub roomy : Progress → Limits → ℕ → Bool
roomy p limits size = ltb p.treated limits.messages && (ltb p.count limits.bundles && leb bundle_max (size - p.used))

module _ (w : ℕ) (order : Order) (limits : Limits) where
  unfoldable pub run : Run → List Item → Run
  run p [] = p
  run p (i ∷ is) =
      let o : Outcome = step w order p.board i.message in
      cond (roomy p.progress limits (length p.output)) (run (advanced p o.board i.next o.handed) is) p

-- the messages of a frame from the progress's place on
abbrev pub run_from : Limits → Run → List ℕ → Run
run_from limits r frame =
    let s : State = r.board.state in
    run (window_of s) (draft_of s).order limits r (messages_from (draft_of s) frame r.progress.next)

-- a sound state with its pool, and bundles within the output
pub record Able (state : State) (pool output : List ℕ) (progress : Progress) : Type 0 where
  pub sound : sound state ≡ true
  pub pooled : length pool ≡ window_of state * bundle_max
  pub used : progress.used ≤ length output
