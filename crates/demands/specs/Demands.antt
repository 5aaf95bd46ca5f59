-- Demands 2 and 3 of the exported calls as hosts make them, that these are calls on states, and that no board is ever locked out.
use Rattle.std.specs.Prelude.{◌≡◌, ℕ, ◌-◌, ◌<◌, ◌^◌, get_or}
use mathlib.Core.List.{List, Memᴰ}
use Rattle.octets.specs.Octets.{Octets}
use Rattle.wire.specs.declared.Version.{Version}
use Rattle.rows.specs.State.{window_of}
use Rattle.rows.specs.Message as Rows
use Rattle.rows.specs.Message.{draft_of, Handed}
use Rattle.receiver.specs.Receive.{receive}
use Rattle.images.specs.Receiver as Receiver
use Rattle.images.specs.Sender as Sender
use Rattle.answers.specs.Receiver.{number_in}
use Rattle.board.specs.Receiver.{received, started, checked as receiver_checked}
use Rattle.burst.specs.Burst.{Lists}
use Rattle.burst.specs.Equal.{Sixteen, Long, Equals}
use Rattle.board.specs.Burst as Bursts
use Rattle.board.specs.Burst.{burst}
use Rattle.board.specs.Sender.{checked as sender_checked}
use Rattle.claims.specs.Record.{Record}
use Rattle.claims.specs.Calls as States
use Rattle.claims.specs.Calls.{Entry}
use Rattle.claims.specs.Use as Use
use Rattle.claims.specs.Use.{Call}
use Rattle.claims.specs.Demand3.{Claim}
use Rattle.claims.specs.Demand2.{Arrival}
use Rattle.demands.specs.Boards as Boards
use Rattle.demands.specs.Boards.{Board, Fresh, Calls}
use Rattle.demands.specs.Senders as Senders
use Rattle.demands.specs.Senders.{Used, Flushed, call_of}

-- ---- Demand 3

-- A fresh board of window w takes frames of the record; es are its whole list.
pub record Reception {v : Version} (R : Record v) (w : ℕ) (es : List Entry) : Type 0 where
  pub board : Board
  pub fresh : Fresh v w board
  pub calls : Calls board es
  pub drawn : (e : Entry) → Memᴰ e es → Memᴰ e.frame R.frames

-- "'15 behind' in demand 3 reads 'window less one', by the second board's window" (document 02, E6)
abbrev pub Demand3 : {v : Version} → Record v → ℕ → ℕ → Type 0
Demand3 R w₁ w₂ = Claim R (Reception R w₁) (Reception R w₂) (w₂ - 1)

-- ---- Demand 2

abbrev pub Demand2 : Version → ℕ → Type 0
Demand2 v w = Arrival (Flushed v) Board (Fresh v w) Calls

-- ---- a row of exported calls on images is the row of calls on states

abbrev pub on_state : Board → Rows.Board
on_state b = record { state = Receiver.state_of b.image; pool = b.pool }

pub record SameCalls : Type 0 where
  pub to_states : (v : Version) (w : ℕ) (b : Board) → Fresh v w b → (es : List Entry) → Calls b es → States.Calls receive (on_state b) es
  pub to_images : (v : Version) (w : ℕ) (b : Board) → Fresh v w b → (es : List Entry) → ((e : Entry) → Memᴰ e es → Octets e.frame)
      → States.Calls receive (on_state b) es → Calls b es
  pub used_states : {v : Version} {p n : ℕ} {image d b : List ℕ} {fs : List (List ℕ)} {bs : List Handed} → n < 2 ^ 32
      → Used v p n image d b fs bs → Use.Used v p n (Sender.state_of image) d b fs bs

-- ---- after start no call is refused with 1, whatever calls came between

pub record NeverLockedOut : Type 0 where
  pub receiver : (image : List ℕ) → Boards.Reached image → receiver_checked image ≡ 0
  pub receive : (image : List ℕ) → Boards.Reached image → (pool frame : List ℕ) (place : ℕ) (output result : List ℕ)
      → number_in (received image pool frame place output result).status ≡ 1 → ⊥
  pub receive_burst : (image : List ℕ) → Boards.Reached image → (pool sizes octets : List ℕ) (frame place : ℕ) (l : Lists) (result : List ℕ)
      → (burst image pool sizes octets frame place l result).status ≡ 1 → ⊥
  pub sender : (image : List ℕ) → Senders.Reached image → sender_checked image ≡ 0
  pub send : (image : List ℕ) → Senders.Reached image → (c : Call) (frame result : List ℕ) → (call_of c image frame result).status ≡ 1 → ⊥

-- ---- requests E5 and E6: "A board is set to one draft at start", and its window is "chosen at start and kept in the state"

-- the octets BTPU_RECEIVER_WINDOW and BTPU_RECEIVER_DRAFT of an image
abbrev pub settings_in : List ℕ → ℕ × ℕ
settings_in image = (get_or image 1 0, get_or image 2 0)

pub record SettingsKept : Type 0 where
  pub start : (v : Version) (w : ℕ) (old image : List ℕ) → started v old w ≡ (0, image) → settings_in image ≡ (w, Receiver.version_code v)
  pub receive : (image : List ℕ) → Boards.Reached image → (pool frame : List ℕ) (place : ℕ) (output result : List ℕ)
      → settings_in (received image pool frame place output result).image ≡ settings_in image
  pub receive_burst : (image : List ℕ) → Boards.Reached image → (pool sizes octets : List ℕ) (frame place : ℕ) (l : Lists) (result : List ℕ) → Sixteen sizes → Long l
      → settings_in (burst image pool sizes octets frame place l result).image ≡ settings_in image

-- ---- request E3: a burst that returns 0 is single calls, from its start to where its result says that the next call goes on

abbrev pub ExportedBursts : Type 0
ExportedBursts =
    (image : List ℕ) → Boards.Reached image → (pool sizes octets : List ℕ) (k place : ℕ) (l : Lists) (result : List ℕ) → Octets octets → Sixteen sizes → Long l
    → let e : Bursts.Exported = burst image pool sizes octets k place l result in
    e.status ≡ 0
    → Equals (draft_of (Receiver.state_of image)) (window_of (Receiver.state_of image)) (on_state (record { image = image; pool = pool })) sizes octets k place l (on_state (record { image = e.image; pool = e.pool })) e.lists
    (get_or e.result 0 0) (get_or e.result 1 0) (get_or e.result 2 0) (get_or e.result 3 0) (get_or e.result 4 0)
