-- Demand 3 (document 01, "Honest record"): one claim about two whole lists of receiving calls, over the draft and the two
-- boards' windows.
use Rattle.std.specs.Prelude.{◌≡◌, ℕ, ◌+◌, ◌-◌, ◌≤◌, ◌<◌, length, None, Some}
use mathlib.Core.List.{List, [], ◌∷◌, ◌++◌, Memᴰ}
use Rattle.wire.specs.declared.Version.{Version}
use Rattle.wire.specs.Message.{Message, skipped, bundle, segment, last, cancel}
use Rattle.wire.specs.Frame.{messages}
use Rattle.window.specs.Window.{distance}
use Rattle.pieces.specs.declared.Order.{Order}
use Rattle.pieces.specs.declared.Order.TheVariants.{Rising, Falling}
use Rattle.rows.specs.Origin.{Origin}
use Rattle.rows.specs.Message.{Draft, draft, Board}
use Rattle.receiver.specs.Receive.{receive}
use Rattle.claims.specs.Record.{Transfers, number_at, piece_at, Record}
use Rattle.claims.specs.Calls.{Fresh, Delivery, Entry, handed_of, Calls}

-- pieces, by index, joined "as 'One row' joins them": in rising order of index; in draft 00 "joining falls"
unfoldable pub join : Order → List (List ℕ) → List ℕ
join order [] = []
join Rising (x ∷ xs) = x ++ join Rising xs
join Falling (x ∷ xs) = join Falling xs ++ x

-- a bundle as a call answers it
unfoldable pub delivery : Origin → List ℕ → Delivery
delivery origin octets = record { origin = origin; size = length octets; octets = octets }

-- "No transfer twice: no number stands in two answers of one board."
unfoldable pub NoTransferTwice : List Delivery → Type 0
NoTransferTwice [] = Unit {0}
NoTransferTwice (h ∷ hs) = ((g : Delivery) (t : ℕ) → Memᴰ g hs → h.origin ≡ Some t → g.origin ≡ Some t → ⊥) × NoTransferTwice hs

-- "Behind is counted along the record's numbers": how many places after the first the transfer messages stand, in order
unfoldable pub places : ℕ → List Message → List ℕ
places first [] = []
places first (skipped ∷ ms) = places first ms
places first (bundle c ∷ ms) = places first ms
places first (segment t i d ∷ ms) = distance first t ∷ places first ms
places first (last t i d ∷ ms) = distance first t ∷ places first ms
places first (cancel t ∷ ms) = distance first t ∷ places first ms

-- none comes more than n behind one already come
unfoldable pub NoneBehind : ℕ → List ℕ → Type 0
NoneBehind n [] = Unit {0}
NoneBehind n (k ∷ ks) = ((j : ℕ) → Memᴰ j ks → k ≤ j + n) × NoneBehind n ks

module _ (D : Draft) where
  -- "messages earlier in the same frame have come too"
  unfoldable pub messages_of : List Entry → List Message
  messages_of [] = []
  messages_of (e ∷ es) = messages D.read e.frame ++ messages_of es

  -- a frame that holds no cancel
  unfoldable pub NoCancel : List ℕ → Type 0
  NoCancel frame = (t : ℕ) → Memᴰ (cancel t) (messages D.read frame) → ⊥

-- The second list is the first with further frames put in, of each of which F holds.
pub data With (F : List ℕ → Type 0) : List Entry → List Entry → Type 0 where
  none : With F [] []
  same : {a b : Entry} {xs ys : List Entry} → a.frame ≡ b.frame → With F xs ys → With F (a ∷ xs) (b ∷ ys)
  more : {b : Entry} {xs ys : List Entry} → F b.frame → With F xs ys → With F xs (b ∷ ys)

-- After every frame of the first list, the second board has handed out each transfer that the first has handed out by then: x and y before
-- it, and what it brought. "'That frame' is the same entry of the first list, also where equal frames were put in."
unfoldable pub Kept : {F : List ℕ → Type 0} {xs ys : List Entry} → List Delivery → List Delivery → With F xs ys → Type 0
Kept x y none = Unit {0}
Kept x y (same {a} {b} e f) =
    ((h : Delivery) (t : ℕ) → h.origin ≡ Some t → Memᴰ h (x ++ a.handed) → Memᴰ h (y ++ b.handed)) × Kept (x ++ a.handed) (y ++ b.handed) f
Kept x y (more {b} c f) = Kept x (y ++ b.handed) f

-- "in it and in demand 2 sender, record and boards are of one draft" (document 02, E5)
module _ {v : Version} (R : Record v) where
  abbrev D : Draft
  D = draft v

  abbrev T : Transfers
  T = R.transfers

  -- a message of one of the record's frames
  unfoldable pub InRecord : Message → Type 0
  InRecord m = (f : List ℕ) × Memᴰ f R.frames × Memᴰ m (messages D.read f)

  -- "Bundles of the record, by length and octets, are:"
  pub data OfRecord : Delivery → Type 0 where
    -- "the contents of its bundle messages, answered without a number;"
    content : (c : List ℕ) → InRecord (bundle c) → OfRecord (delivery None c)
    -- "and, for each number with all its pieces, these joined as 'One row' joins them, answered with that number"
    joined : (k : ℕ) → k < T.count → 0 < length (T.pieces k) → ((i : ℕ) → i < length (T.pieces k) → InRecord (piece_at T k i))
        → OfRecord (delivery (Some (number_at T k)) (join D.order (T.pieces k)))

  -- A fresh board of window w takes frames of the record; es are its whole list.
  pub record Reception (w : ℕ) (es : List Entry) : Type 0 where
    pub board : Board
    pub fresh : Fresh v w board
    pub calls : Calls receive board es
    pub drawn : (e : Entry) → Memᴰ e es → Memᴰ e.frame R.frames

  -- The claim about the lists of two boards: P and Q say which lists those are, n how far behind a message may come on the second.
  pub record Claim (P Q : List Entry → Type 0) (n : ℕ) : Type 0 where
    -- a board hands out only bundles of the record
    pub only_bundles : (x : List Entry) → P x → (h : Delivery) → Memᴰ h (handed_of x) → OfRecord h
    -- and no transfer twice
    pub none_twice : (x : List Entry) → P x → NoTransferTwice (handed_of x)
    -- More reception never costs a transfer, where the further frames hold no cancel and on the second board no transfer message comes more
    -- than n behind one already come.
    pub more_never_costs : (x y : List Entry) → P x → Q y → (f : With (NoCancel D) x y) → NoneBehind n (places T.first (messages_of D y)) → Kept [] [] f

  -- "'15 behind' in demand 3 reads 'window less one', by the second board's window" (document 02, E6)
  abbrev pub Demand3 : ℕ → ℕ → Type 0
  Demand3 w₁ w₂ = Claim (Reception w₁) (Reception w₂) (w₂ - 1)
