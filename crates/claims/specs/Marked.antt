-- The marked cases of document 01, M1 to M13: fresh state as a plain start leaves it, place 0. M7 is as request E2 of document 02 corrects it.
use Rattle.std.specs.Prelude.{List, [], ◌∷◌, ℕ, take, length, replicate, None, Some, Err, Ok, Result}
use Rattle.std.proofs.Math.Option.{Option, none, some}
use Rattle.wire.specs.declared.Version.{Version}
use Rattle.window.specs.Window.{plain_window}
use Rattle.rows.specs.Origin.{Origin}
use Rattle.receiver.specs.declared.Answer.{Answer}
use Rattle.receiver.specs.declared.Refusal.{Refusal}
use Rattle.receiver.specs.declared.Answer.TheVariants.{Delivered, Finished}
use Rattle.rows.specs.State.{fresh}
use Rattle.rows.specs.Message.{Board}
use Rattle.receiver.specs.Receive.{refusal_number, refusal_place, Reply, receive}

-- what a call answers, by document 01's numbers
pub data Marked : Type 0 where
  -- length, octets, next place, and the transfer number or that there is none
  bundle : ℕ → List ℕ → ℕ → Option ℕ → Marked
  finished : Marked
  -- the number of refusal, and the place that 4 to 8 name
  refused : ℕ → Option ℕ → Marked

abbrev pub transfer_of : Origin → Option ℕ
transfer_of None = none
transfer_of (Some t) = some t

unfoldable pub marked_as : Result Answer Refusal → List ℕ → Marked
marked_as (Ok (Delivered size next origin)) output = bundle size (take size output) next (transfer_of origin)
marked_as (Ok Finished) output = finished
marked_as (Err refusal) output = refused (refusal_number refusal) (refusal_place refusal)

unfoldable pub marked : Reply → Marked
marked r = marked_as r.answer r.output

unfoldable pub output : List ℕ
output = replicate 4096 0

unfoldable pub fresh_board : Version → Board
fresh_board v = record { state = fresh v plain_window; pool = replicate 32768 0 }

unfoldable pub taken_from : Board → List ℕ → Reply
taken_from b frame = receive b frame 0 output

-- the number of a case, its frame, and what a fresh board answers
pub record Case : Type 0 where
  pub number : ℕ
  pub frame : List ℕ
  pub answer : Marked

abbrev m : ℕ → List ℕ → Marked → Case
m number frame answer = record { number = number; frame = frame; answer = answer }

abbrev pub bundle_of : List ℕ → ℕ → Option ℕ → Marked
bundle_of octets next number = bundle (length octets) octets next number

-- M1 to M12, of M5 the first frame
unfoldable pub cases : List Case
cases =
    m 1 (2 ∷ 0 ∷ 0 ∷ 3 ∷ 65 ∷ 66 ∷ 67 ∷ []) (bundle_of (65 ∷ 66 ∷ 67 ∷ []) 7 none)
    ∷ m 2 (0 ∷ 0 ∷ 0 ∷ []) finished
    ∷ m 3 (1 ∷ 0 ∷ 0 ∷ 0 ∷ []) finished
    ∷ m 4 (4 ∷ 0 ∷ 0 ∷ 9 ∷ 0 ∷ 0 ∷ 0 ∷ 5 ∷ 0 ∷ 0 ∷ 0 ∷ 0 ∷ 65 ∷ []) (bundle_of (65 ∷ []) 13 (some 5))
    ∷ m 5 (5 ∷ 0 ∷ 0 ∷ 4 ∷ 0 ∷ 0 ∷ 0 ∷ 5 ∷ []) finished
    ∷ m 6 (2 ∷ 128 ∷ 0 ∷ 5 ∷ 2 ∷ 1 ∷ 255 ∷ 65 ∷ 66 ∷ []) (bundle_of (65 ∷ 66 ∷ []) 9 none)
    ∷ m 7 (2 ∷ 16 ∷ 0 ∷ 0 ∷ []) (bundle_of [] 4 none)
    ∷ m 8 (2 ∷ 0 ∷ 0 ∷ 4 ∷ 65 ∷ []) (refused 6 (some 0))
    ∷ m 9 (3 ∷ 0 ∷ 0 ∷ []) (refused 4 (some 0))
    ∷ m 10 (2 ∷ 128 ∷ 0 ∷ 1 ∷ 2 ∷ []) (refused 7 (some 0))
    ∷ m 11 (5 ∷ 0 ∷ 0 ∷ 3 ∷ 0 ∷ 0 ∷ 0 ∷ []) (refused 8 (some 0))
    ∷ m 12 (0 ∷ 2 ∷ 0 ∷ 0 ∷ 0 ∷ []) (bundle_of [] 5 none)
    ∷ []
