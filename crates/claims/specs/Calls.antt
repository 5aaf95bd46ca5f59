-- A board's calls over a list of frames (document 01, "Receiving call" and "Honest record"), over the receiving call.
use Rattle.std.specs.Prelude.{◌≡◌, List, [], ◌∷◌, ◌++◌, ℕ, ◌*◌, length, take, Err, Ok}
use Rattle.wire.specs.declared.Version.{Version}
use Rattle.pieces.specs.Pieces.{bundle_max}
use Rattle.rows.specs.Origin.{Origin}
use Rattle.receiver.specs.declared.Refusal.{Refusal}
use Rattle.receiver.specs.declared.Answer.TheVariants.{Delivered, Finished}
use Rattle.rows.specs.State.{fresh}
use Rattle.rows.specs.Message.{Board}
use Rattle.receiver.specs.Receive.{Reply}

-- "A fresh board has G absent and all rows Free, as the receiver's start leaves it, and a pool of any octets." It is set to a draft.
pub record Fresh (v : Version) (w : ℕ) (b : Board) : Type 0 where
  pub started : b.state ≡ fresh v w
  pub pooled : length b.pool ≡ w * bundle_max

-- "Handed out means that a receiving call answered it": the origin, the length and the octets.
pub record Delivery : Type 0 where
  pub origin : Origin
  pub size : ℕ
  pub octets : List ℕ

-- An entry of a board's list: a frame that it took to its end, and what it handed out meanwhile.
pub record Entry : Type 0 where
  pub frame : List ℕ
  pub handed : List Delivery

unfoldable pub handed_of : List Entry → List Delivery
handed_of [] = []
handed_of (e ∷ es) = e.handed ++ handed_of es

module _ (call : Board → List ℕ → ℕ → List ℕ → Reply) where
  -- "A frame is taken to its end by calling from place 0, then from each next place answered, until Finished": the board before, the
  -- next place, what is handed out from there on, and the board after.
  pub data Takes (frame : List ℕ) : Board → ℕ → List Delivery → Board → Type 0 where
    -- "Each call gets state and pool as that board's last call left them"; "The output's first octets hold the bundle"
    delivered : {b after : Board} {place : ℕ} {hs : List Delivery} (output : List ℕ) (size next : ℕ) (origin : Origin)
        → (call b frame place output).answer ≡ Ok (Delivered size next origin)
        → Takes frame (call b frame place output).board next hs after
        → Takes frame b place (record { origin = origin; size = size; octets = take size (call b frame place output).output } ∷ hs) after
    finished : {b : Board} {place : ℕ} (output : List ℕ)
        → (call b frame place output).answer ≡ Ok Finished
        → Takes frame b place [] (call b frame place output).board
    -- "Calls with that state and pool that are refused for their frame, place or output may stand anywhere between"
    refused : {b after : Board} {place : ℕ} {hs : List Delivery} (other : List ℕ) (at : ℕ) (output : List ℕ) (r : Refusal)
        → (call b other at output).answer ≡ Err r
        → Takes frame (call b other at output).board place hs after
        → Takes frame b place hs after

  -- A board's list of entries. "Every frame of a board's list is taken to its end"; frames of refused calls "don't count as taken".
  pub data Calls : Board → List Entry → Type 0 where
    over : {b : Board} → Calls b []
    taken : {b after : Board} {frame : List ℕ} {hs : List Delivery} {es : List Entry}
        → Takes frame b 0 hs after → Calls after es → Calls b (record { frame = frame; handed = hs } ∷ es)
    between : {b : Board} {es : List Entry} (other : List ℕ) (place : ℕ) (output : List ℕ) (r : Refusal)
        → (call b other place output).answer ≡ Err r
        → Calls (call b other place output).board es → Calls b es
