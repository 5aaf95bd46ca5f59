-- A sender as a host uses it (document 01, "Sending calls", from "Demand 2 is about a sender after start" on), by the calls of include/btpu.h:
-- the image of its state and its frame buffer.
use Rattle.std.specs.Prelude.{◌≡◌, Bool, true, false, cond, not, ◌&&◌, ◌||◌, List, [], ◌∷◌, ◌++◌, ℕ, ◌<◌, ◌^◌, length, get_or, drop, eqb, None, Some}
use Rattle.octets.specs.Octets.{Octets, number}
use Rattle.wire.specs.declared.Version.{Version}
use Rattle.rows.specs.Message.{Handed}
use Rattle.board.specs.Sender as Exported
use Rattle.board.specs.Sender.{Exported, placed_by, cancelled_by, flushed_by}
use Rattle.claims.specs.Use.{Call, to_place, to_cancel, to_flush}

-- state[BTPU_SENDER_BEGUN], and octets 12 to 15: the number of the transfer begun
abbrev pub is_begun : List ℕ → Bool
is_begun image = eqb (get_or image 8 0) 1

abbrev pub begun_number : List ℕ → ℕ
begun_number image = number (drop 12 image)

-- result[BTPU_ANSWER] of a call that is not refused is one of two
unfoldable pub answers : Exported → ℕ → ℕ → Bool
answers e m n = eqb e.status 0 && (eqb (get_or e.result 0 0) m || eqb (get_or e.result 0 0) n)

-- "After BTPU_PLACED_AND_READY and BTPU_READY the frame buffer holds a frame to send"
unfoldable pub taken : Exported → List (List ℕ)
taken e = cond (answers e 1 2) (e.frame ∷ []) []

-- "at its end: that is after BTPU_PLACED or BTPU_PLACED_AND_READY with state[BTPU_SENDER_BEGUN] 0": bundle b of a call on an image
unfoldable pub finished : List ℕ → List ℕ → Exported → List Handed
finished image b e =
    cond (answers e 0 1 && not (is_begun e.image))
    (record { origin = cond (is_begun image) (Some (begun_number image)) None; octets = b } ∷ []) []

-- a call with an image, a frame buffer and a result
unfoldable pub call_of : Call → List ℕ → List ℕ → List ℕ → Exported
call_of (to_place b) image frame result = placed_by image b frame result
call_of to_cancel image frame result = cancelled_by image frame result
call_of to_flush image frame result = flushed_by image frame result

-- After `btpu_sender_start`, or `btpu_sender_start_00`, with frame size p and first number n and some calls: the image, the frame buffer, the octets
-- lent last, the frames taken and the bundles placed to their end. Buffers and bundles are octets, and a result has four entries.
pub data Used (v : Version) (p n : ℕ) : List ℕ → List ℕ → List ℕ → List (List ℕ) → List Handed → Type 0 where
  -- "a sender after start": the frame buffer and the octets lent may be any
  started : {image : List ℕ} (old d b : List ℕ) → Octets d → Exported.started v old p n ≡ (0, image) → Used v p n image d b [] []
  -- "lends the same octets until a bundle is placed to its end or cancelled"
  placing : {image d b : List ℕ} {fs : List (List ℕ)} {bs : List Handed} (a result : List ℕ) → Octets a → length result ≡ 4
      → (is_begun image ≡ true → a ≡ b) → Used v p n image d b fs bs
      → Used v p n (placed_by image a d result).image (placed_by image a d result).frame a
      (fs ++ taken (placed_by image a d result)) (bs ++ finished image a (placed_by image a d result))
  -- "A cancelled bundle is not placed to its end."
  cancelling : {image d b : List ℕ} {fs : List (List ℕ)} {bs : List Handed} (result : List ℕ) → length result ≡ 4 → Used v p n image d b fs bs
      → Used v p n (cancelled_by image d result).image (cancelled_by image d result).frame b (fs ++ taken (cancelled_by image d result)) bs
  flushing : {image d b : List ℕ} {fs : List (List ℕ)} {bs : List Handed} (result : List ℕ) → length result ≡ 4 → Used v p n image d b fs bs
      → Used v p n (flushed_by image d result).image (flushed_by image d result).frame b (fs ++ taken (flushed_by image d result)) bs
  -- a refused call, of any octets and with any frame buffer
  refusing : {image d b : List ℕ} {fs : List (List ℕ)} {bs : List Handed} (c : Call) (other result : List ℕ)
      → ((call_of c image other result).status ≡ 0 → ⊥) → Used v p n image d b fs bs → Used v p n (call_of c image other result).image d b fs bs

-- A use that "flushes last, with nothing begun": fs are the frames taken, bs the bundles placed to their end.
pub record Flushed (v : Version) (fs : List (List ℕ)) (bs : List Handed) : Type 0 where
  pub size : ℕ
  pub first : ℕ
  pub numbered : first < 2 ^ 32
  pub image : List ℕ
  pub frame : List ℕ
  pub lent : List ℕ
  pub before : List (List ℕ)
  pub used : Used v size first image frame lent before bs
  pub idle : is_begun image ≡ false
  pub result : List ℕ
  pub four : length result ≡ 4
  pub flushed : (flushed_by image frame result).status ≡ 0
  pub frames : fs ≡ before ++ taken (flushed_by image frame result)

-- An image after a start and any sending calls, refused ones too, with any frame buffers, bundles and results.
pub data Reached : List ℕ → Type 0 where
  started : {image : List ℕ} (v : Version) (old : List ℕ) (p n : ℕ) → n < 2 ^ 32 → Exported.started v old p n ≡ (0, image) → Reached image
  called : {image : List ℕ} (c : Call) (frame result : List ℕ) → Reached image → Reached (call_of c image frame result).image
