-- `framing::place_piece` meets its contract.
use Rattle.std.proofs.Common.{◌≡◌, ◌-◌, List, length, take, drop, ℕ, refl, arith, length-drop, take_all}
use Rattle.framing.proofs.Steps.{last-piece, next-piece}
use Rattle.framing.proofs.place_piece.Goals as goal

-- the slice of all that remains
all-that-remains : (n : ℕ) (b : List ℕ) → take (length b - n) (drop n b) ≡ drop n b
all-that-remains n b = take_all (length b - n) (drop n b) (omega (arith, length-drop n b))

pub returns-then-rest-most : goal.returns-then-rest-most
returns-then-rest-most c =
    let a = c.args in
    let s = a.s.now in
    last-piece s a.bundle.now a.frame.now _ _ _ _ _ _ _ _ (all-that-remains s.placed a.bundle.now) c.numbered-t.ensures c.piece_index-index.ensures.0 c.advanced.ensures c.if-rest-most.true c.marks-ending.ensures c.ended.ensures c.put_piece.ensures

pub returns : goal.returns
returns c =
    let a = c.args in
    let s = a.s.now in
    next-piece s a.bundle.now a.frame.now _ _ _ _ _ _ _ _ (all-that-remains s.placed a.bundle.now) c.numbered-t.ensures c.piece_index-index.ensures.0 _ _ c.advanced-2.ensures refl c.if-rest-most.false c.marks-ending-2.ensures c.next_index-next.ensures c.continued.ensures c.put_piece-2.ensures
