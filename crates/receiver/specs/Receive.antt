-- Start and the receiving call (document 01, "Receiving call" and "Numbers of refusal"), over the draft and the window size w.
use Rattle.std.specs.Prelude.{cond, not, ◌||◌, List, [], ◌∷◌, ℕ, ◌*◌, length, ltb, eqb, Err, Ok, Result}
use Rattle.std.proofs.Math.Option.{Option, none, some}
use Rattle.octets.specs.Octets.{put}
use Rattle.wire.specs.Message.{fault_number}
use Rattle.wire.specs.declared.Rejection.{Rejection}
use Rattle.wire.specs.declared.Rejection.TheVariants as Frame
use Rattle.wire.specs.declared.Version.{Version}
use Rattle.wire.specs.Frame.{Item, checked, frame_max}
use Rattle.window.specs.Window.{is_window}
use Rattle.pieces.specs.Pieces.{bundle_max}
use Rattle.receiver.specs.declared.Answer.{Answer}
use Rattle.receiver.specs.declared.Answer.TheVariants.{Delivered, Finished}
use Rattle.receiver.specs.declared.Refusal.{Refusal}
use Rattle.receiver.specs.declared.Refusal.TheVariants.{Unsound, BufferSize, FrameSize, Malformed, Misplaced}
use Rattle.receiver.specs.declared.WrongWindow.{WrongWindow}
use Rattle.rows.specs.declared.State.{State}
use Rattle.rows.specs.State.{sound, window_of, fresh}
use Rattle.rows.specs.Message.{Draft, draft_of, messages_from, Board, Handed, Outcome, step}

-- refusal 21
abbrev pub window_refusal : ℕ
window_refusal = 21

abbrev pub wrong_window : WrongWindow
wrong_window = record {}

-- "The window becomes 4, 8 or 16, chosen at start and kept in the state, else refusal 21" (document 02, E6)
unfoldable pub start : Version → ℕ → Result State WrongWindow
start v w = cond (is_window w) (Ok (fresh v w)) (Err wrong_window)

-- document 01's numbers of refusal, and the place that the answer names: the first bad message's start, for 4 to 8
abbrev pub refusal_number : Refusal → ℕ
refusal_number Unsound = 1
refusal_number BufferSize = 2
refusal_number FrameSize = 3
refusal_number (Malformed fault place) = fault_number fault
refusal_number Misplaced = 9

-- 0 for none
abbrev pub number_of : Option Refusal → ℕ
number_of none = 0
number_of (some q) = refusal_number q

abbrev pub refusal_place : Refusal → Option ℕ
refusal_place Unsound = none
refusal_place BufferSize = none
refusal_place FrameSize = none
refusal_place (Malformed fault place) = some place
refusal_place Misplaced = none

-- 0 for none
abbrev pub named : Option ℕ → ℕ
named none = 0
named (some place) = place

-- what a call answers, and the state, the pool and the output that it leaves
pub record Reply : Type 0 where
  pub answer : Result Answer Refusal
  pub board : Board
  pub output : List ℕ

-- as the code answers it
abbrev pub reply : Result Answer Refusal → State → List ℕ → List ℕ → Reply
reply answer state pool output = record { answer = answer; board = record { state = state; pool = pool }; output = output }

-- refusals 4 to 9, from the check of the whole frame and of the place
abbrev pub rejected : Rejection → Refusal
rejected (Frame.Malformed fault at) = Malformed fault at
rejected Frame.Misplaced = Misplaced

unfoldable pub frame_refusal : Result (Unit {0}) Rejection → Option Refusal
frame_refusal (Ok u) = none
frame_refusal (Err rejection) = some (rejected rejection)

-- refusals 3 to 9: what a frame and a place alone are refused for
abbrev pub unfit : Draft → List ℕ → ℕ → Option Refusal
unfit D frame place = cond (eqb (length frame) 0 || ltb frame_max (length frame)) (some FrameSize) (frame_refusal (checked D.read frame place))

-- a refused call changes nothing
unfoldable pub replied : Option Refusal → Board → List ℕ → Reply → Reply
replied none b output reply = reply
replied (some refusal) b output reply = record { answer = Err refusal; board = b; output = output }

-- a bundle that a message hands out is the answer: the output's first octets hold it, the rest stays. Else the messages behind decide.
unfoldable pub delivered : Option Handed → Board → ℕ → List ℕ → Reply → Reply
delivered none b next output later = later
delivered (some h) b next output later = record { answer = Ok (Delivered (length h.octets) next h.origin); board = b; output = put output 0 h.octets }

module _ (D : Draft) (w : ℕ) where
  -- the first refusal that applies
  unfoldable pub refusal : Board → List ℕ → ℕ → List ℕ → Option Refusal
  refusal b frame place output =
      cond (not (sound b.state)) (some Unsound)
      (cond (not (eqb (length b.pool) (w * bundle_max)) || ltb (length output) bundle_max) (some BufferSize)
      (unfit D frame place))

  -- the messages up to the first handed-out bundle
  unfoldable pub treat : Board → List Item → List ℕ → Reply
  treat b [] output = record { answer = Ok Finished; board = b; output = output }
  treat b (i ∷ is) output =
      let o : Outcome = step w D.order b i.message in
      delivered o.handed o.board i.next output (treat o.board is output)

  unfoldable pub receive_as : Board → List ℕ → ℕ → List ℕ → Reply
  receive_as b frame place output = replied (refusal b frame place output) b output (treat b (messages_from D frame place) output)

-- the receiving call, by the board's own draft and window
abbrev pub receive : Board → List ℕ → ℕ → List ℕ → Reply
receive b = receive_as (draft_of b.state) (window_of b.state) b
