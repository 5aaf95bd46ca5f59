-- The receiver's state as an image of 3,144 octets.
-- Octet 0 of the image is 1 if G is present, 1 is the window, 2 is 1 for draft 00, 3 is zero, 4 to 7 are G; then 196 octets for each row: phase,
-- whether the final index is known, the final index, how many pieces are held, 64 indexes, 64 lengths of two octets. Numbers are big-endian.
use Rattle.std.specs.Prelude.{Bool, true, cond, ◌&&◌, List, [], ◌∷◌, ◌++◌, ℕ, zero, suc, ◌%◌, get_or, take, drop, eqb, leb}
use Rattle.octets.specs.Octets.{number, be32, pairs, spread}
use Rattle.wire.specs.declared.Version.{Version}
use Rattle.wire.specs.declared.Version.TheVariants.{Draft00, Draft02}
use Rattle.row.specs.declared.Row.{Row}
use Rattle.row.specs.declared.Phase.{Phase}
use Rattle.row.specs.declared.Phase.TheVariants.{Free, Open, Done, Cancelled, Abandoned}
use Rattle.rows.specs.declared.State.{State}
use Rattle.rows.specs.State.{window_of, row_max}

abbrev pub image_size : ℕ
image_size = 3144

abbrev pub row_size : ℕ
row_size = 196

-- ---- from octets

-- an octet for a phase is 0 to 4, one for a flag 0 or 1
unfoldable pub phase_of : ℕ → Phase
phase_of n = cond (eqb n 1) Open (cond (eqb n 2) Done (cond (eqb n 3) Cancelled (cond (eqb n 4) Abandoned Free)))

-- an octet for a draft is 1 for draft 00, 0 for draft 02
unfoldable pub version_of : ℕ → Version
version_of n = cond (eqb n 1) Draft00 Draft02

unfoldable pub is_row : List ℕ → Bool
is_row xs = leb (get_or xs 0 0) 4 && leb (get_or xs 1 0) 1

unfoldable pub row_of : List ℕ → Row
row_of xs =
    record {
      phase = phase_of (get_or xs 0 0);
      known = eqb (get_or xs 1 0) 1;
      last = get_or xs 2 0;
      held = get_or xs 3 0;
      indexes = take 64 (drop 4 xs);
      lengths = pairs 64 (drop 68 xs);
    }

unfoldable pub are_rows : ℕ → List ℕ → Bool
are_rows zero xs = true
are_rows (suc n) xs = is_row xs && are_rows n (drop row_size xs)

unfoldable pub rows_of : ℕ → List ℕ → List Row
rows_of zero xs = []
rows_of (suc n) xs = row_of xs ∷ rows_of n (drop row_size xs)

-- whether 3,144 octets are the image of a state, sound or not
unfoldable pub is_image : List ℕ → Bool
is_image xs =
    leb (get_or xs 0 0) 1 && leb (get_or xs 2 0) 1 && eqb (get_or xs 3 0) 0 && are_rows row_max (drop 8 xs)

unfoldable pub state_of : List ℕ → State
state_of xs =
    record {
      present = eqb (get_or xs 0 0) 1;
      greatest = number (drop 4 xs);
      rows = rows_of row_max (drop 8 xs);
      settings = record { version = version_of (get_or xs 2 0); window = get_or xs 1 0 };
    }

-- ---- to octets

abbrev pub phase_code : Phase → ℕ
phase_code Free = 0
phase_code Open = 1
phase_code Done = 2
phase_code Cancelled = 3
phase_code Abandoned = 4

abbrev pub version_code : Version → ℕ
version_code Draft00 = 1
version_code Draft02 = 0

abbrev pub flag : Bool → ℕ
flag b = cond b 1 0

-- a sound row holds at most 64 pieces, and a sound state's window is at most 16
unfoldable pub row_image : Row → List ℕ
row_image r = phase_code r.phase ∷ flag r.known ∷ r.last ∷ r.held % 256 ∷ r.indexes ++ spread r.lengths

unfoldable pub rows_image : List Row → List ℕ
rows_image [] = []
rows_image (r ∷ rs) = row_image r ++ rows_image rs

unfoldable pub image_of : State → List ℕ
image_of s = flag s.present ∷ window_of s % 256 ∷ version_code s.settings.version ∷ 0 ∷ be32 s.greatest ++ rows_image s.rows
