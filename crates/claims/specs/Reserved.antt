-- Request E2 of document 02: "setting any reserved bits in the headers of a frame's messages changes no answer and no state", for whole
-- lists of receiving calls of a board of draft 02. Draft 00 has no flags.
use Rattle.std.specs.Prelude.{◌≡◌, List, [], ◌∷◌, ℕ}
use Rattle.wire.specs.declared.Version.TheVariants.{Draft02}
use Rattle.wire.specs.Reserved.{SameButReserved}
use Rattle.rows.specs.Message.{Board}
use Rattle.receiver.specs.Receive.{Reply, receive}

-- a receiving call: the frame, the place in it, and the output lent
pub record Call : Type 0 where
  pub frame : List ℕ
  pub place : ℕ
  pub output : List ℕ

-- The replies to a list of calls, each with its answer, state, pool and output; state and pool go on as the call before left them.
unfoldable pub replies : Board → List Call → List Reply
replies b [] = []
replies b (c ∷ cs) = let r : Reply = receive b c.frame c.place c.output in r ∷ replies r.board cs

-- the same calls, with frames that differ in reserved bits alone
pub data SameCalls : List Call → List Call → Type 0 where
  none : SameCalls [] []
  more : {f g : List ℕ} {cs ds : List Call} (place : ℕ) (output : List ℕ) → SameButReserved f g → SameCalls cs ds
      → SameCalls (record { frame = f; place = place; output = output } ∷ cs) (record { frame = g; place = place; output = output } ∷ ds)

-- the claim
abbrev pub ReservedIgnored : Type 0
ReservedIgnored = (b : Board) → b.state.settings.version ≡ Draft02 → (cs ds : List Call) → SameCalls cs ds → replies b cs ≡ replies b ds
