-- Document 02, E3: "State, pool and bundles equal those of single calls", over the draft and the window size w.
use Rattle.std.specs.Prelude.{◌≡◌, List, [], ◌∷◌, ◌++◌, map, ℕ, ◌<◌, ◌^◌, length, drop, get_or, Ok}
use Rattle.octets.specs.Octets.{put}
use Rattle.row.specs.declared.Phase.TheVariants.{Free}
use Rattle.row.specs.Row.{empty_row}
use Rattle.rows.specs.State.{window_of, row_max}
use Rattle.rows.specs.Message.{Draft, Board, Handed}
use Rattle.rows.specs.Messages.{joined_octets}
use Rattle.messages.specs.Run.{origin_number}
use Rattle.frames.specs.Frames.{Note, frames_of}
use Rattle.frames.specs.Singles.{room_in, always, Singles}
use Rattle.burst.specs.Burst.{took, limits, frames_max, Lists, receive_burst}

-- lengths of 16 bits
abbrev pub Sixteen : List ℕ → Type 0
Sixteen sizes = (j : ℕ) → get_or sizes j 0 < 2 ^ 16

-- lists of the lengths that the call has
pub record Long (l : Lists) : Type 0 where
  pub lengths : length l.lengths ≡ limits.bundles
  pub numbers : length l.numbers ≡ limits.bundles
  pub places : length l.places ≡ frames_max
  pub reasons : length l.reasons ≡ frames_max

-- bundles and notes at the front of what was lent; all behind them stays
abbrev pub resulting : List Handed → List Note → Lists → Lists
resulting hs ns l =
    record {
      output = put l.output 0 (joined_octets hs);
      lengths = put l.lengths 0 (map (λ (h : Handed). length h.octets) hs);
      numbers = put l.numbers 0 (map (λ (h : Handed). origin_number h.origin) hs);
      places = put l.places 0 (map (λ (n : Note). n.place) ns);
      reasons = put l.reasons 0 (map (λ (n : Note). n.reason) ns);
    }

-- what a call was lent, and what it gave
pub record Given : Type 0 where
  pub before : Lists
  pub after : Lists
  pub bundles : ℕ
  pub refused : ℕ

-- bundles and notes as the calls gave them, one behind another
pub data Gave : List Given → List Handed → List Note → Type 0 where
  none : Gave [] [] []
  then : {g : Given} {gs : List Given} {hs' : List Handed} {ns' : List Note} (hs : List Handed) (ns : List Note)
      → g.after ≡ resulting hs ns g.before → length hs ≡ g.bundles → length ns ≡ g.refused → Gave gs hs' ns'
      → Gave (g ∷ gs) (hs ++ hs') (ns ++ ns')

module _ (D : Draft) (w : ℕ) where
  -- a board of the window, as the program's types have it
  pub record Shaped (b : Board) : Type 0 where
    pub window : window_of b.state ≡ w
    pub rows : length b.state.rows ≡ row_max
    pub indexes : (r : ℕ) → r < row_max → length (get_or b.state.rows r (empty_row Free)).indexes ≡ 64
    pub lengths : (r : ℕ) → r < row_max → length (get_or b.state.rows r (empty_row Free)).lengths ≡ 64

  -- A burst that is not refused is single calls, from its start to where it says that the next call goes on, with the notes of exactly the frames
  -- refused; it stops before a message or a refused frame exactly where there is no room.
  pub record Equals (b : Board) (sizes octets : List ℕ) (k place : ℕ) (l : Lists) (after : Board) (left : Lists) (bundles used k' place' refused : ℕ) : Type 0 where
    pub handed : List Handed
    pub notes : List Note
    pub calls : Singles D w (room_in limits (length l.output)) k (drop k (frames_of sizes octets)) b place 0 0 handed notes after k' place'
    pub lists : left ≡ resulting handed notes l
    pub counted : length handed ≡ bundles
    pub filled : length (joined_octets handed) ≡ used
    pub noted : length notes ≡ refused

  abbrev pub BurstEquals : Type 0
  BurstEquals =
      (b : Board) (sizes octets : List ℕ) (k place : ℕ) (l : Lists) (bundles used k' place' refused : ℕ)
      → Shaped b → Long l → Sixteen sizes
      → (receive_burst D w b sizes octets k place l).answer ≡ Ok (took bundles used k' place' refused)
      → Equals b sizes octets k place l (receive_burst D w b sizes octets k place l).board (receive_burst D w b sizes octets k place l).lists bundles used k' place' refused

  -- ---- bursts continued

  -- "bursts continued from where each stopped", until the count of frames
  pub data Continued (sizes octets : List ℕ) : (b : Board) (k place : ℕ) (gs : List Given) (after : Board) → Type 0 where
    ended : {b : Board} → Continued sizes octets b (length sizes) 0 [] b
    onward : {b after : Board} {k place k' place' : ℕ} {gs : List Given} (l : Lists) (bundles used refused : ℕ) → Long l
        → (receive_burst D w b sizes octets k place l).answer ≡ Ok (took bundles used k' place' refused)
        → Continued sizes octets (receive_burst D w b sizes octets k place l).board k' place' gs after
        → Continued sizes octets b k place (record { before = l; after = (receive_burst D w b sizes octets k place l).lists; bundles = bundles; refused = refused } ∷ gs) after

  -- they are all the single calls of the list
  abbrev pub AllSingles : Type 0
  AllSingles =
      (sizes octets : List ℕ) (b after : Board) (gs : List Given) → Shaped b → Sixteen sizes
      → Continued sizes octets b 0 0 gs after
      → (hs : List Handed) × (ns : List Note) × Gave gs hs ns × Singles D w always 0 (frames_of sizes octets) b 0 0 0 hs ns after (length sizes) 0
