-- Playback of frames (document 02, E1): the messages of the frames that are not refused, in order, up to a limit. Over the draft, the window
-- size w and the board.
use Rattle.std.specs.Prelude.{cond, List, [], ◌∷◌, ◌++◌, ℕ, ◌+◌, ◌-◌, length, take, eqb}
use Rattle.std.proofs.Math.Option.{Option, none, some}
use Rattle.wire.specs.Message.{Message}
use Rattle.wire.specs.Frame.{messages}
use Rattle.rows.specs.Message.{Draft, Board, Handed}
use Rattle.rows.specs.Messages.{board_after, handed_by}
use Rattle.receiver.specs.declared.Refusal.{Refusal}
use Rattle.receiver.specs.Receive.{refusal_number, unfit}
use Rattle.frames.specs.Frames.{Note}

-- "refused frames treat none"
unfoldable pub unless : Option Refusal → List Message → List Message
unless none ms = ms
unless (some q) ms = []

-- "each refused frame's place (from 0) and refusal number"
unfoldable pub note_of : Option Refusal → ℕ → List Note → List Note
note_of none k ns = ns
note_of (some q) k ns = record { place = k; reason = refusal_number q } ∷ ns

-- what a playback treats, hands out, notes and leaves
pub record Playback : Type 0 where
  pub messages : List Message
  pub bundles : List Handed
  pub notes : List Note
  pub board : Board

module _ (D : Draft) where
  -- "Each padding run is one message"
  abbrev pub treated_in : List ℕ → List Message
  treated_in f = unless (unfit D f 0) (messages D.read f)

  unfoldable pub all_messages : List (List ℕ) → List Message
  all_messages [] = []
  all_messages (f ∷ fs) = treated_in f ++ all_messages fs

  -- "before looking at a further frame": of the frames from frame k on, those are looked at before which one of n messages is left to be treated
  unfoldable pub notes_within : ℕ → ℕ → List (List ℕ) → List Note
  notes_within n k [] = []
  notes_within n k (f ∷ fs) = cond (eqb n 0) [] (note_of (unfit D f 0) k (notes_within (n - length (treated_in f)) (k + 1) fs))

  -- "stops after a given number of messages"
  unfoldable pub played : ℕ → ℕ → Board → List (List ℕ) → Playback
  played w limit b fs =
      let ms : List Message = take limit (all_messages fs) in
      record { messages = ms; bundles = handed_by w D.order b ms; notes = notes_within limit 0 fs; board = board_after w D.order b ms }
