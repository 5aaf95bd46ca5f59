-- The same frames by single receiving calls (document 02, E3: "State, pool and bundles equal those of single calls"), over the draft, the
-- window size w, and whether there is room when so many bundles and so many octets of them are out.
use Rattle.std.specs.Prelude.{◌≡◌, Bool, true, false, ◌&&◌, ◌⊎◌, List, [], ◌∷◌, ℕ, ◌+◌, ◌-◌, ◌≤◌, ◌<◌, length, take, ltb, leb, Err, Ok}
use Rattle.pieces.specs.Pieces.{bundle_max}
use Rattle.messages.specs.declared.Limits.{Limits}
use Rattle.rows.specs.Origin.{Origin}
use Rattle.receiver.specs.declared.Refusal.{Refusal}
use Rattle.receiver.specs.declared.Answer.TheVariants.{Delivered, Finished}
use Rattle.rows.specs.Message.{Draft, Board, Handed}
use Rattle.receiver.specs.Receive.{refusal_number, receive_as}
use Rattle.frames.specs.Frames.{Note}

-- "fewer than 4,096 octets of output are left or 256 bundles are out": room is left, in an output of so many octets, under limits
abbrev pub room_in : Limits → ℕ → ℕ → ℕ → Bool
room_in limits size count used = ltb count limits.bundles && leb bundle_max (size - used)

-- room without end
abbrev pub always : ℕ → ℕ → Bool
always count used = true

module _ (D : Draft) (w : ℕ) (room : ℕ → ℕ → Bool) where
  -- Single calls from frame k and a place on, when `count` bundles with `used` octets are out: the bundles and the notes of refused frames, the
  -- board after them, and where the next call goes on. Each call gets the board as the last one left it, and any output of 4,096 octets or more.
  pub data Singles : (k : ℕ) (fs : List (List ℕ)) (b : Board) (place count used : ℕ) (hs : List Handed) (ns : List Note) (after : Board) (k' place' : ℕ) → Type 0 where
    -- no frame is left: "their count, and place 0"
    over : {k count used : ℕ} {b : Board} → Singles k [] b 0 count used [] [] b k 0
    -- "stopping before any message or refused frame"
    stops : {k place count used : ℕ} {f : List ℕ} {fs : List (List ℕ)} {b : Board} → room count used ≡ false → (place ≡ 0) ⊎ (place < length f)
        → Singles k (f ∷ fs) b place count used [] [] b k place
    delivers : {k place count used k' place' : ℕ} {f : List ℕ} {fs : List (List ℕ)} {b after : Board} {hs : List Handed} {ns : List Note} (output : List ℕ) (size next : ℕ) (origin : Origin)
        → bundle_max ≤ length output → room count used ≡ true
        → (receive_as D w b f place output).answer ≡ Ok (Delivered size next origin)
        → Singles k (f ∷ fs) (receive_as D w b f place output).board next (count + 1) (used + size) hs ns after k' place'
        → Singles k (f ∷ fs) b place count used (record { origin = origin; octets = take size (receive_as D w b f place output).output } ∷ hs) ns after k' place'
    -- at a frame's end no message follows, and no room is asked for: "at a frame's end the next frame"
    finishes : {k place count used k' place' : ℕ} {f : List ℕ} {fs : List (List ℕ)} {b after : Board} {hs : List Handed} {ns : List Note} (output : List ℕ)
        → bundle_max ≤ length output → (room count used ≡ true) ⊎ (place ≡ length f)
        → (receive_as D w b f place output).answer ≡ Ok Finished
        → Singles (k + 1) fs (receive_as D w b f place output).board 0 count used hs ns after k' place'
        → Singles k (f ∷ fs) b place count used hs ns after k' place'
    -- "noted with its place in the list and its refusal number, and the burst goes on"
    refuses : {k place count used k' place' : ℕ} {f : List ℕ} {fs : List (List ℕ)} {b after : Board} {hs : List Handed} {ns : List Note} (output : List ℕ) (q : Refusal)
        → bundle_max ≤ length output → room count used ≡ true
        → (receive_as D w b f place output).answer ≡ Err q
        → Singles (k + 1) fs b 0 count used hs ns after k' place'
        → Singles k (f ∷ fs) b place count used hs (record { place = k; reason = refusal_number q } ∷ ns) after k' place'
