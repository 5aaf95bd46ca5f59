-- The receiver's state, its start, and which states are sound (document 01, "Receiving call").
use Rattle.std.specs.Prelude.{Bool, true, false, ◌&&◌, ◌||◌, List, [], ◌∷◌, ℕ, suc, replicate, eqb, ltb}
use Rattle.wire.specs.declared.Version.{Version}
use Rattle.window.specs.Window.{is_window}
use Rattle.row.specs.declared.Row.{Row}
use Rattle.row.specs.declared.Phase.{Phase}
use Rattle.row.specs.declared.Phase.TheVariants.{Free, Open, Done, Cancelled, Abandoned}
use Rattle.row.specs.Row.{empty_row, sound_row}
use Rattle.rows.specs.declared.State.{State}

-- the window of a receiver, "chosen at start and kept in the state" (document 02, E6)
abbrev pub window_of : State → ℕ
window_of s = s.settings.window

-- the rows of a state: "there are as many rows" as the window says, and those beyond it carry no meaning
abbrev pub row_max : ℕ
row_max = 16

-- a fresh receiver, set to a draft (document 02, E5: "A board is set to one draft at start"), of window w: G absent, all rows Free
unfoldable pub fresh : Version → ℕ → State
fresh v w = record { present = false; greatest = 0; rows = replicate row_max (empty_row Free); settings = record { version = v; window = w } }

abbrev pub is_free : Phase → Bool
is_free Free = true
is_free Open = false
is_free Done = false
is_free Cancelled = false
is_free Abandoned = false

abbrev pub sound_in : Bool → Row → Bool
sound_in present r = sound_row r && (present || is_free r.phase)

-- the rows from r on: each sound, and Free where G is absent or the row lies beyond the window
unfoldable pub sound_from : ℕ → ℕ → Bool → List Row → Bool
sound_from w r present [] = true
sound_from w r present (x ∷ xs) = sound_in (present && ltb r w) x && sound_from w (suc r) present xs

-- a window; G absent, its entry zero, and all rows Free; or G present; and each row sound
unfoldable pub sound : State → Bool
sound s = (is_window (window_of s) && (s.present || eqb s.greatest 0)) && sound_from (window_of s) 0 s.present s.rows
