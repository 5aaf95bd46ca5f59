-- A board as a host keeps it, by the calls of include/btpu.h: the image of its state and its pool.
use Rattle.std.specs.Prelude.{◌≡◌, cond, List, [], ◌∷◌, ℕ, ◌*◌, ◌^◌, length, get_or, take, eqb, None, Some}
use Rattle.octets.specs.Octets.{Octets}
use Rattle.wire.specs.declared.Version.{Version}
use Rattle.pieces.specs.Pieces.{bundle_max}
use Rattle.rows.specs.Origin.{Origin}
use Rattle.burst.specs.Burst.{Lists}
use Rattle.burst.specs.Equal.{Sixteen, Long}
use Rattle.board.specs.Burst as Bursts
use Rattle.board.specs.Receiver as Exported
use Rattle.board.specs.Receiver.{Exported, received}
use Rattle.claims.specs.Calls.{Delivery, Entry}

pub record Board : Type 0 where
  pub image : List ℕ
  pub pool : List ℕ

-- "A fresh board", "set to one draft at start" (document 02, E5), its window "chosen at start" (E6), "and a pool of any octets": a start over any
-- octets returned 0 and left the image. `btpu_receiver_start` is draft 02 with the plain window, `btpu_receiver_start_window` draft 02 and
-- `btpu_receiver_start_00` draft 00 with a window given.
pub record Fresh (v : Version) (w : ℕ) (b : Board) : Type 0 where
  pub old : List ℕ
  pub started : Exported.started v old w ≡ (0, b.image)
  pub pooled : length b.pool ≡ w * bundle_max

-- `btpu_receive` with a frame, a place, an output and a result
abbrev pub call : Board → List ℕ → ℕ → List ℕ → List ℕ → Exported
call b frame place output result = received b.image b.pool frame place output result

-- "Each call gets state and pool as that board's last call left them"
abbrev pub left : Exported → Board
left e = record { image = e.image; pool = e.pool }

-- an entry of the result: BTPU_ANSWER is 0, BTPU_LENGTH 1, BTPU_PLACE 2, BTPU_NUMBER 3
abbrev pub entry : Exported → ℕ → ℕ
entry e k = get_or e.result k 0

-- result[BTPU_NUMBER]: the transfer number, or BTPU_NO_NUMBER
unfoldable pub origin_of : ℕ → Origin
origin_of n = cond (eqb n (2 ^ 32)) None (Some n)

-- "the first result[BTPU_LENGTH] octets of the output are a bundle"
abbrev pub bundle_of : Exported → Delivery
bundle_of e = record { origin = origin_of (entry e 3); size = entry e 1; octets = take (entry e 1) e.output }

-- "To take a frame to its end, call with place 0, then with each next place answered, until the answer is BTPU_FINISHED": the board before,
-- the next place, what is handed out from there on, and the board after.
pub data Takes (frame : List ℕ) : Board → ℕ → List Delivery → Board → Type 0 where
  -- BTPU_BUNDLE
  bundle : {b after : Board} {place : ℕ} {hs : List Delivery} (output result : List ℕ)
      → (call b frame place output result).status ≡ 0
      → entry (call b frame place output result) 0 ≡ 1
      → Takes frame (left (call b frame place output result)) (entry (call b frame place output result) 2) hs after
      → Takes frame b place (bundle_of (call b frame place output result) ∷ hs) after
  -- BTPU_FINISHED
  finished : {b : Board} {place : ℕ} (output result : List ℕ)
      → (call b frame place output result).status ≡ 0
      → entry (call b frame place output result) 0 ≡ 0
      → Takes frame b place [] (left (call b frame place output result))
  -- "Calls with that state and pool that are refused for their frame, place or output may stand anywhere between"
  refused : {b after : Board} {place : ℕ} {hs : List Delivery} (other : List ℕ) (at : ℕ) (output result : List ℕ)
      → ((call b other at output result).status ≡ 0 → ⊥)
      → Takes frame (left (call b other at output result)) place hs after
      → Takes frame b place hs after

-- A board's list of entries: frames of octets, each taken to its end, and refused calls between.
pub data Calls : Board → List Entry → Type 0 where
  over : {b : Board} → Calls b []
  taken : {b after : Board} {frame : List ℕ} {hs : List Delivery} {es : List Entry} → Octets frame
      → Takes frame b 0 hs after → Calls after es → Calls b (record { frame = frame; handed = hs } ∷ es)
  between : {b : Board} {es : List Entry} (other : List ℕ) (place : ℕ) (output result : List ℕ)
      → ((call b other place output result).status ≡ 0 → ⊥)
      → Calls (left (call b other place output result)) es → Calls b es

-- An image after a start and any receiving calls and bursts, refused ones too, with frames of octets and any pools.
pub data Reached : List ℕ → Type 0 where
  started : {image : List ℕ} (v : Version) (w : ℕ) (old : List ℕ) → Exported.started v old w ≡ (0, image) → Reached image
  called : {image : List ℕ} (pool frame : List ℕ) (place : ℕ) (output result : List ℕ) → Octets frame → Reached image
      → Reached (received image pool frame place output result).image
  burst : {image : List ℕ} (pool sizes octets : List ℕ) (frame place : ℕ) (l : Lists) (result : List ℕ) → Octets octets → Sixteen sizes → Long l → Reached image
      → Reached (Bursts.burst image pool sizes octets frame place l result).image
