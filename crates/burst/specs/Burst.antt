-- The burst call (document 02, E3), over the draft and the window size w: "up to 64 frames together, as lengths and joined octets".
use Rattle.std.specs.Prelude.{Bool, cond, not, ◌||◌, List, [], ◌∷◌, ℕ, ◌*◌, length, drop, eqb, ltb, Result, Ok, Err}
use Rattle.std.proofs.Math.Option.{Option, none, some}
use Rattle.octets.specs.Octets.{sum_of}
use Rattle.pieces.specs.Pieces.{bundle_max}
use Rattle.rows.specs.declared.State.{State}
use Rattle.rows.specs.State.{sound}
use Rattle.rows.specs.Message.{Draft, Board}
use Rattle.messages.specs.declared.Limits.{Limits}
use Rattle.messages.specs.Run.{going, begun}
use Rattle.receiver.specs.Receive.{number_of, unfit}
use Rattle.frames.specs.Frames.{frames_of, Reach, set_out, through}
use Rattle.burst.specs.declared.Taken.{Taken}
use Rattle.burst.specs.declared.Refusal.{Refusal}
use Rattle.burst.specs.declared.Refusal.TheVariants.{Unsound, BufferSize, FrameCount, OctetCount, Misplaced}

abbrev pub frames_max : ℕ
frames_max = 64

-- "or 256 bundles are out"; of messages there are fewer than octets, and 64 lengths of 16 bits come to fewer octets than this
abbrev pub limits : Limits
limits = record { messages = 4194304; bundles = 256 }

-- document 02's numbers
abbrev pub refusal_number : Refusal → ℕ
refusal_number Unsound = 1
refusal_number BufferSize = 2
refusal_number FrameCount = 3
refusal_number OctetCount = 19
refusal_number Misplaced = 9

-- memory lent for the results
pub record Lists : Type 0 where
  pub output : List ℕ
  pub lengths : List ℕ
  pub numbers : List ℕ
  pub places : List ℕ
  pub reasons : List ℕ

abbrev pub lists : List ℕ → List ℕ → List ℕ → List ℕ → List ℕ → Lists
lists output lengths numbers places reasons = record { output = output; lengths = lengths; numbers = numbers; places = places; reasons = reasons }

-- how many bundles are out and their octets, the frame and the place where the next call goes on, and how many frames were refused
abbrev pub took : ℕ → ℕ → ℕ → ℕ → ℕ → Taken
took bundles octets frame place refused = record { bundles = bundles; octets = octets; frame = frame; place = place; refused = refused }

-- what a call answers, and the state, the pool and the lists that it leaves
pub record Reply : Type 0 where
  pub answer : Result Taken Refusal
  pub board : Board
  pub lists : Lists

-- as the code answers it
abbrev pub reply : Result Taken Refusal → State → List ℕ → Lists → Reply
reply answer state pool l = record { answer = answer; board = record { state = state; pool = pool }; lists = l }

-- "bundles one behind another in the output with their lengths", and where the next call goes on
abbrev pub taken : Reach → Reply
taken r =
    record {
      answer = Ok (took r.run.progress.count r.run.progress.used r.frame r.run.progress.next r.refused);
      board = r.run.board;
      lists = lists r.run.output r.run.lengths r.run.numbers r.places r.reasons;
    }

-- a refused call changes nothing
unfoldable pub replied : Option Refusal → Board → Lists → Reply → Reply
replied none b l r = r
replied (some q) b l r = record { answer = Err q; board = b; lists = l }

module _ (D : Draft) where
  -- "a starting place that a single call refuses with 9 (at the count, any but 0)"
  unfoldable pub misplaced_in : List (List ℕ) → ℕ → Bool
  misplaced_in [] place = not (eqb place 0)
  misplaced_in (f ∷ fs) place = eqb (number_of (unfit D f place)) 9

  -- what frames and a start are refused for, in document 02's order
  unfoldable pub unfitting : List ℕ → List ℕ → ℕ → ℕ → Option Refusal
  unfitting sizes octets k place =
      cond (ltb frames_max (length sizes)) (some FrameCount)
      (cond (not (eqb (length octets) (sum_of sizes))) (some OctetCount)
      (cond (ltb (length sizes) k || misplaced_in (drop k (frames_of sizes octets)) place) (some Misplaced) none))

  module _ (w : ℕ) where
    -- the first refusal that applies
    unfoldable pub refusal : Board → List ℕ → List ℕ → ℕ → ℕ → List ℕ → Option Refusal
    refusal b sizes octets k place output =
        cond (not (sound b.state)) (some Unsound)
        (cond (not (eqb (length b.pool) (w * bundle_max)) || ltb (length output) bundle_max) (some BufferSize)
        (unfitting sizes octets k place))

    -- "Take them in one call from a given frame and place"
    unfoldable pub receive_burst : Board → List ℕ → List ℕ → ℕ → ℕ → Lists → Reply
    receive_burst b sizes octets k place l =
        replied (refusal b sizes octets k place l.output) b l
        (taken (through D w limits (set_out (going b.state b.pool l.output l.lengths l.numbers (begun place)) l.places l.reasons k)
        (drop k (frames_of sizes octets))))
