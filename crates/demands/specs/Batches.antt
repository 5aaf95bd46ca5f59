-- A board of either draft and any window that takes its frames by bursts (document 02, E3), list after list, as demands 2 and 3 speak of a board's calls.
use Rattle.std.specs.Prelude.{◌≡◌, cond, List, [], ◌∷◌, ◌++◌, map, ℕ, ltb}
use Rattle.wire.specs.declared.Version.{Version}
use Rattle.window.specs.Window.{Window}
use Rattle.rows.specs.Message.{Draft, draft, Board, Handed}
use Rattle.receiver.specs.Receive.{Reply, number_of, unfit, receive}
use Rattle.frames.specs.Frames.{Note, frames_of}
use Rattle.burst.specs.Equal.{Sixteen, Given, Gave, Continued}
use Rattle.claims.specs.Calls.{Fresh, Delivery, Entry, handed_of, Calls}

-- lists of frames, each by bursts continued to its end; the board before, what the calls gave, and all frames
pub data Batches (v : Version) (w : ℕ) : Board → List Given → List (List ℕ) → Type 0 where
  over : {b : Board} → Batches v w b [] []
  batch : {b mid : Board} {gs gs' : List Given} {fs : List (List ℕ)} (sizes octets : List ℕ) → Sixteen sizes
      → Continued (draft v) w sizes octets b 0 0 gs mid → Batches v w mid gs' fs
      → Batches v w b (gs ++ gs') (frames_of sizes octets ++ fs)

-- a bundle as it was handed out
abbrev pub bare : Delivery → Handed
bare d = record { origin = d.origin; octets = d.octets }

-- the frames that a call does not refuse
unfoldable pub fitting : Draft → List (List ℕ) → List (List ℕ)
fitting D [] = []
fitting D (f ∷ fs) = cond (ltb 0 (number_of (unfit D f 0))) (fitting D fs) (f ∷ fitting D fs)

-- the calls of a board, over the receiving call: they take each frame that is not refused to its end, in order, and hand out what the bursts gave
pub record Received (v : Version) (call : Board → List ℕ → ℕ → List ℕ → Reply) (b : Board) (gs : List Given) (fs : List (List ℕ)) : Type 0 where
  pub entries : List Entry
  pub notes : List Note
  pub calls : Calls call b entries
  pub gave : Gave gs (map bare (handed_of entries)) notes
  pub taken : map (λ (e : Entry). e.frame) entries ≡ fitting (draft v) fs

abbrev pub BurstsReceive : Type 0
BurstsReceive =
    (v : Version) (w : ℕ) → Window w → (b : Board) (gs : List Given) (fs : List (List ℕ)) → Fresh v w b → Batches v w b gs fs
    → Received v receive b gs fs
