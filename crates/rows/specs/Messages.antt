-- Messages one after another, over the window size w.
use Rattle.std.specs.Prelude.{List, [], ◌∷◌, ◌++◌, map, ℕ}
use Rattle.std.proofs.Math.Option.{Option, none, some}
use Rattle.wire.specs.Message.{Message}
use Rattle.wire.specs.Frame.{Item}
use Rattle.pieces.specs.declared.Order.{Order}
use Rattle.rows.specs.Message.{Board, Handed, step}

-- what messages hand out, and the board that they leave
unfoldable pub listed : Option Handed → List Handed
listed none = []
listed (some h) = h ∷ []

module _ (w : ℕ) (order : Order) where
  unfoldable pub board_after : Board → List Message → Board
  board_after b [] = b
  board_after b (m ∷ ms) = board_after (step w order b m).board ms

  unfoldable pub handed_by : Board → List Message → List Handed
  handed_by b [] = []
  handed_by b (m ∷ ms) = listed (step w order b m).handed ++ handed_by (step w order b m).board ms

abbrev pub messages_in : List Item → List Message
messages_in is = map (λ (i : Item). i.message) is

-- the octets of bundles one behind another
unfoldable pub joined_octets : List Handed → List ℕ
joined_octets [] = []
joined_octets (h ∷ hs) = h.octets ++ joined_octets hs
