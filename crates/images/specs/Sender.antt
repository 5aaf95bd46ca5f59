-- The sender's state as an image of 24 octets.
-- The image: frame size (2 octets), fill (2), next number (4), whether a transfer is begun (1), the draft (1), two zeros, its number (4),
-- its bundle's length (2), octets placed (2), next index (4). Numbers are big-endian.
use Rattle.std.specs.Prelude.{Bool, ◌&&◌, cond, Option, Some, None, List, [], ◌∷◌, ◌++◌, ℕ, get_or, drop, eqb, leb}
use Rattle.octets.specs.Octets.{number, number16, be32, be16}
use Rattle.framing.specs.declared.State.{State}
use Rattle.images.specs.Receiver.{flag, version_of, version_code}

abbrev pub image_size : ℕ
image_size = 24

-- whether 24 octets are the image of a state, sound or not
unfoldable pub is_image : List ℕ → Bool
is_image xs = leb (get_or xs 8 0) 1 && leb (get_or xs 9 0) 1 && eqb (get_or xs 10 0) 0 && eqb (get_or xs 11 0) 0

unfoldable pub state_of : List ℕ → State
state_of xs =
    record {
      size = number16 xs;
      fill = number16 (drop 2 xs);
      next = number (drop 4 xs);
      begun = eqb (get_or xs 8 0) 1;
      number = number (drop 12 xs);
      length = number16 (drop 16 xs);
      placed = number16 (drop 18 xs);
      index = number (drop 20 xs);
      version = version_of (get_or xs 9 0);
    }

-- the state that octets are the image of, if they are one
unfoldable pub read : List ℕ → Option State
read xs = cond (is_image xs) (Some (state_of xs)) None

unfoldable pub image_of : State → List ℕ
image_of s =
    be16 s.size ++ be16 s.fill ++ be32 s.next ++ (flag s.begun ∷ version_code s.version ∷ 0 ∷ 0 ∷ []) ++ be32 s.number ++ be16 s.length
    ++ be16 s.placed ++ be32 s.index
