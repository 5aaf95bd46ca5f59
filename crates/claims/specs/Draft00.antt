-- Cases of draft 00, worked by hand from section 7 of document 000: frames taken one after another from place 0 by a fresh board that is set to
-- it, and what each call answers.
use Rattle.std.specs.Prelude.{List, [], ◌∷◌, ℕ}
use Rattle.std.proofs.Math.Option.{none, some}
use Rattle.rows.specs.Message.{Board}
use Rattle.receiver.specs.Receive.{Reply}
use Rattle.claims.specs.Marked.{Marked, bundle_of, finished, refused, marked, taken_from}

unfoldable pub answers : Board → List (List ℕ) → List Marked
answers b [] = []
answers b (f ∷ fs) = let r : Reply = taken_from b f in marked r ∷ answers r.board fs

-- the number of a case, its frames, and the answers to them
pub record Case : Type 0 where
  pub number : ℕ
  pub frames : List (List ℕ)
  pub answered : List Marked

abbrev d : ℕ → List (List ℕ) → List Marked → Case
d number frames answered = record { number = number; frames = frames; answered = answered }

unfoldable pub cases : List Case
cases =
    -- 7.1: a bundle message
    d 1 ((2 ∷ 0 ∷ 0 ∷ 3 ∷ 65 ∷ 66 ∷ 67 ∷ []) ∷ []) (bundle_of (65 ∷ 66 ∷ 67 ∷ []) 7 none ∷ [])
    -- 7.5: definite padding, whatever its content
    ∷ d 2 ((1 ∷ 0 ∷ 0 ∷ 2 ∷ 255 ∷ 255 ∷ []) ∷ []) (finished ∷ [])
    -- 7.6: indefinite padding ends at the first octet that is not zero
    ∷ d 3 ((0 ∷ 0 ∷ 2 ∷ 0 ∷ 0 ∷ 0 ∷ []) ∷ []) (bundle_of ([]) 6 none ∷ [])
    -- 7: the length has 24 bits, so that there are no flags
    ∷ d 4 ((2 ∷ 16 ∷ 0 ∷ 0 ∷ []) ∷ []) (refused 6 (some 0) ∷ [])
    -- nor hints
    ∷ d 5 ((2 ∷ 128 ∷ 0 ∷ 5 ∷ 2 ∷ 1 ∷ 255 ∷ 65 ∷ 66 ∷ []) ∷ []) (refused 6 (some 0) ∷ [])
    -- fewer than four octets for a header
    ∷ d 6 ((3 ∷ 0 ∷ 0 ∷ []) ∷ []) (refused 4 (some 0) ∷ [])
    -- 7.2 and 7.3: a start with the highest index, 1, and the segment of index 0
    ∷ d 7 ((3 ∷ 0 ∷ 0 ∷ 10 ∷ 0 ∷ 0 ∷ 0 ∷ 5 ∷ 0 ∷ 0 ∷ 0 ∷ 1 ∷ 65 ∷ 66 ∷ 4 ∷ 0 ∷ 0 ∷ 9 ∷ 0 ∷ 0 ∷ 0 ∷ 5 ∷ 0 ∷ 0 ∷ 0 ∷ 0 ∷ 67 ∷ []) ∷ [])
    (bundle_of (65 ∷ 66 ∷ 67 ∷ []) 27 (some 5) ∷ [])
    -- the segment first: joining falls all the same
    ∷ d 8 ((4 ∷ 0 ∷ 0 ∷ 9 ∷ 0 ∷ 0 ∷ 0 ∷ 5 ∷ 0 ∷ 0 ∷ 0 ∷ 0 ∷ 67 ∷ 3 ∷ 0 ∷ 0 ∷ 10 ∷ 0 ∷ 0 ∷ 0 ∷ 5 ∷ 0 ∷ 0 ∷ 0 ∷ 1 ∷ 65 ∷ 66 ∷ []) ∷ [])
    (bundle_of (65 ∷ 66 ∷ 67 ∷ []) 27 (some 5) ∷ [])
    -- in two frames
    ∷ d 9 ((3 ∷ 0 ∷ 0 ∷ 10 ∷ 0 ∷ 0 ∷ 0 ∷ 5 ∷ 0 ∷ 0 ∷ 0 ∷ 1 ∷ 65 ∷ 66 ∷ []) ∷ (4 ∷ 0 ∷ 0 ∷ 9 ∷ 0 ∷ 0 ∷ 0 ∷ 5 ∷ 0 ∷ 0 ∷ 0 ∷ 0 ∷ 67 ∷ []) ∷ [])
    (finished ∷ bundle_of (65 ∷ 66 ∷ 67 ∷ []) 13 (some 5) ∷ [])
    -- indexes 1, 0, 2, with the start last
    ∷ d 10 ((4 ∷ 0 ∷ 0 ∷ 9 ∷ 0 ∷ 0 ∷ 0 ∷ 5 ∷ 0 ∷ 0 ∷ 0 ∷ 1 ∷ 66 ∷ []) ∷ (4 ∷ 0 ∷ 0 ∷ 9 ∷ 0 ∷ 0 ∷ 0 ∷ 5 ∷ 0 ∷ 0 ∷ 0 ∷ 0 ∷ 67 ∷ []) ∷ (3 ∷ 0 ∷ 0 ∷ 9 ∷ 0 ∷ 0 ∷ 0 ∷ 5 ∷ 0 ∷ 0 ∷ 0 ∷ 2 ∷ 65 ∷ []) ∷ [])
    (finished ∷ finished ∷ bundle_of (65 ∷ 66 ∷ 67 ∷ []) 13 (some 5) ∷ [])
    -- a start with index 0 alone completes a transfer
    ∷ d 11 ((3 ∷ 0 ∷ 0 ∷ 9 ∷ 0 ∷ 0 ∷ 0 ∷ 5 ∷ 0 ∷ 0 ∷ 0 ∷ 0 ∷ 65 ∷ []) ∷ []) (bundle_of (65 ∷ []) 13 (some 5) ∷ [])
    -- a segment does not: type 4 is no end in this draft
    ∷ d 12 ((4 ∷ 0 ∷ 0 ∷ 9 ∷ 0 ∷ 0 ∷ 0 ∷ 5 ∷ 0 ∷ 0 ∷ 0 ∷ 0 ∷ 65 ∷ []) ∷ []) (finished ∷ [])
    -- 7.4: a cancel that came first
    ∷ d 13 ((5 ∷ 0 ∷ 0 ∷ 4 ∷ 0 ∷ 0 ∷ 0 ∷ 5 ∷ []) ∷ (3 ∷ 0 ∷ 0 ∷ 10 ∷ 0 ∷ 0 ∷ 0 ∷ 5 ∷ 0 ∷ 0 ∷ 0 ∷ 1 ∷ 65 ∷ 66 ∷ []) ∷ (4 ∷ 0 ∷ 0 ∷ 9 ∷ 0 ∷ 0 ∷ 0 ∷ 5 ∷ 0 ∷ 0 ∷ 0 ∷ 0 ∷ 67 ∷ []) ∷ [])
    (finished ∷ finished ∷ finished ∷ [])
    -- a segment above the start's index: the row is given up
    ∷ d 14 ((3 ∷ 0 ∷ 0 ∷ 10 ∷ 0 ∷ 0 ∷ 0 ∷ 5 ∷ 0 ∷ 0 ∷ 0 ∷ 1 ∷ 65 ∷ 66 ∷ []) ∷ (4 ∷ 0 ∷ 0 ∷ 9 ∷ 0 ∷ 0 ∷ 0 ∷ 5 ∷ 0 ∷ 0 ∷ 0 ∷ 2 ∷ 68 ∷ []) ∷ (4 ∷ 0 ∷ 0 ∷ 9 ∷ 0 ∷ 0 ∷ 0 ∷ 5 ∷ 0 ∷ 0 ∷ 0 ∷ 0 ∷ 67 ∷ []) ∷ [])
    (finished ∷ finished ∷ finished ∷ [])
    -- a start has eight octets before its data
    ∷ d 15 ((3 ∷ 0 ∷ 0 ∷ 7 ∷ 0 ∷ 0 ∷ 0 ∷ 5 ∷ 0 ∷ 0 ∷ 0 ∷ []) ∷ []) (refused 8 (some 0) ∷ [])
    -- a type that is passed over by its length
    ∷ d 16 ((6 ∷ 0 ∷ 0 ∷ 1 ∷ 255 ∷ 2 ∷ 0 ∷ 0 ∷ 1 ∷ 65 ∷ []) ∷ []) (bundle_of (65 ∷ []) 10 none ∷ [])
    ∷ []
