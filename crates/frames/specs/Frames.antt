-- Frames one after another, over the draft and the window size w: each is taken from its place on, or noted where it is refused
-- (document 02, E1 and E3).
use Rattle.std.specs.Prelude.{cond, List, [], ◌∷◌, ℕ, ◌+◌, length, take, drop, set, ltb}
use Rattle.rows.specs.declared.State.{State}
use Rattle.rows.specs.Message.{Draft, messages_from}
use Rattle.messages.specs.declared.Limits.{Limits}
use Rattle.messages.specs.declared.Progress.{Progress}
use Rattle.messages.specs.Run.{Run, going, roomy, run}
use Rattle.receiver.specs.Receive.{number_of, unfit}
use Rattle.frames.specs.declared.Reached.{Reached}

-- frames from their lengths and their joined octets
unfoldable pub frames_of : List ℕ → List ℕ → List (List ℕ)
frames_of [] octets = []
frames_of (n ∷ ns) octets = take n octets ∷ frames_of ns (drop n octets)

-- a refused frame: its place in the list, and the number of its refusal
pub record Note : Type 0 where
  pub place : ℕ
  pub reason : ℕ

-- how far frames were taken, with the entries for the refused ones: the frame's place in the list and the number of its refusal
pub record Reach : Type 0 where
  pub run : Run
  pub places : List ℕ
  pub reasons : List ℕ
  pub refused : ℕ
  pub frame : ℕ

-- as the code answers it
abbrev pub reached : Reached → State → List ℕ → List ℕ → List ℕ → List ℕ → List ℕ → List ℕ → Reach
reached r state pool output lengths numbers places reasons =
    record { run = going state pool output lengths numbers r.progress; places = places; reasons = reasons; refused = r.refused; frame = r.frame }

-- none is refused yet
abbrev pub set_out : Run → List ℕ → List ℕ → ℕ → Reach
set_out r places reasons first = record { run = r; places = places; reasons = reasons; refused = 0; frame = first }

-- at the front of the next frame
abbrev pub fronted : Run → Run
fronted r =
    let p : Progress = r.progress in
    going r.board.state r.board.pool r.output r.lengths r.numbers (record { treated = p.treated; count = p.count; used = p.used; next = 0; origin = p.origin })

-- a frame is refused: it is noted, and changes nothing else
abbrev pub noted : Reach → ℕ → Reach
noted r reason =
    record {
      run = fronted r.run;
      places = set r.places r.refused r.frame;
      reasons = set r.reasons r.refused reason;
      refused = r.refused + 1;
      frame = r.frame + 1;
    }

-- a frame is treated to its end
abbrev pub passed : Reach → Run → Reach
passed r t = record { run = fronted t; places = r.places; reasons = r.reasons; refused = r.refused; frame = r.frame + 1 }

-- a frame is left before its end
abbrev pub within : Reach → Run → Reach
within r t = record { run = t; places = r.places; reasons = r.reasons; refused = r.refused; frame = r.frame }

module _ (D : Draft) (w : ℕ) (limits : Limits) where
  -- "stopping before any message or refused frame": the limits are tested before each frame, and in it before each message
  unfoldable pub through : Reach → List (List ℕ) → Reach
  through r [] = r
  through r (f ∷ fs) =
      let place : ℕ = r.run.progress.next in
      let reason : ℕ = number_of (unfit D f place) in
      let t : Run = run w D.order limits r.run (messages_from D f place) in
      cond (roomy r.run.progress limits (length r.run.output))
      (cond (ltb 0 reason) (through (noted r reason) fs) (cond (ltb t.progress.next (length f)) (within r t) (through (passed r t) fs)))
      r
