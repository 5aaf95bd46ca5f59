-- Demand 2 (document 01, "Sending calls" and "Receiving call"): what a sender's frames yield at a fresh board of the same draft, of
-- window w.
use Rattle.std.specs.Prelude.{◌≡◌, false, List, map, ℕ, ◌<◌, ◌^◌}
use Rattle.wire.specs.declared.Version.{Version}
use Rattle.framing.specs.declared.State.{State}
use Rattle.rows.specs.Message.{Board, Handed}
use Rattle.receiver.specs.Receive.{receive}
use Rattle.claims.specs.Calls.{Fresh, Entry, handed_of, Calls}
use Rattle.claims.specs.Demand3.{delivery}
use Rattle.claims.specs.Use.{Used}

-- A use that "flushes last, with nothing begun": fs are the frames taken, bs the bundles placed to their end.
pub record Flushed (v : Version) (fs : List (List ℕ)) (bs : List Handed) : Type 0 where
  pub size : ℕ
  pub first : ℕ
  pub numbered : first < 2 ^ 32
  pub state : State
  pub frame : List ℕ
  pub lent : List ℕ
  pub used : Used v size first state frame lent fs bs
  pub empty : state.fill ≡ 0
  pub idle : state.begun ≡ false

-- "A frame is taken to its end by calling from place 0, then from each next place answered, until Finished; state and pool go back as they
-- were left, for the next frame too (demand 2 as well)." Sends says which frames and bundles a sender has, Takes which entries a board.
pub record Arrival (Sends : List (List ℕ) → List Handed → Type 0) (B : Type 0) (Started : B → Type 0) (Takes : B → List Entry → Type 0) : Type 0 where
  -- whatever calls are refused between, the board hands out exactly the bundles placed to their end, in order: octets, length, and number or none
  pub arrives : (fs : List (List ℕ)) (bs : List Handed) → Sends fs bs → (b : B) → Started b → (es : List Entry) → Takes b es
      → map (λ (e : Entry). e.frame) es ≡ fs → handed_of es ≡ map (λ (h : Handed). delivery h.origin h.octets) bs
  -- and every fresh board can take these frames
  pub exists : (fs : List (List ℕ)) (bs : List Handed) → Sends fs bs → (b : B) → Started b
      → (es : List Entry) × Takes b es × (map (λ (e : Entry). e.frame) es ≡ fs)

-- "in it and in demand 2 sender, record and boards are of one draft" (document 02, E5)
abbrev pub Demand2 : Version → ℕ → Type 0
Demand2 v w = Arrival (Flushed v) Board (Fresh v w) (Calls receive)
