-- Sound states of a sender (document 01, "Sending calls": "Sound state").
use Rattle.std.specs.Prelude.{Bool, cond, ◌&&◌, ℕ, ◌+◌, ◌-◌, leb, ltb, eqb}
use Rattle.wire.specs.declared.Version.{Version}
use Rattle.wire.specs.declared.Version.TheVariants.{Draft00, Draft02}
use Rattle.framing.specs.declared.State.{State}
use Rattle.framing.specs.Placing.{bundle_max, rounded_up}

-- Frame size P is 128 to 2,048.
abbrev pub sized : ℕ → Bool
sized p = leb 128 p && leb p 2048

-- Fill f is 0 to P-1.
abbrev pub ranges : State → Bool
ranges s = sized s.size && ltb s.fill s.size

-- With nothing begun its entries are zero.
abbrev pub cleared : State → Bool
cleared s = eqb s.number 0 && eqb s.length 0 && eqb s.placed 0 && eqb s.index 0

-- A transfer begun has f = 0, length above P-4 and at most 4,096, placed octets at least 1 and less than the length.
abbrev pub under_way : State → Bool
under_way s =
    eqb s.fill 0 && ltb (s.size - 4) s.length && leb s.length bundle_max && leb 1 s.placed
    && ltb s.placed s.length

-- The remaining octets divided by P-12, rounded up.
abbrev pub pieces_left : State → ℕ
pieces_left s = rounded_up (s.length - s.placed) (s.size - 12)

-- Next index: in draft 02 at least 1, and plus the pieces left at most 64; in draft 00 the pieces left, less one.
abbrev pub indexed_in : Version → State → Bool
indexed_in Draft00 s = eqb s.index (pieces_left s - 1)
indexed_in Draft02 s = leb 1 s.index && leb (s.index + pieces_left s) 64

abbrev pub indexed : State → Bool
indexed s = indexed_in s.version s

unfoldable pub sound : State → Bool
sound s = ranges s && cond s.begun (under_way s && indexed s) (cleared s)
