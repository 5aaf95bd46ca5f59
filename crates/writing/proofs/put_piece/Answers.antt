-- `writing::put_piece` meets its contract.
use mathlib.Core.Path.{◌∙◌}
use native.Mathlib.Omega.{arith}
use Rattle.writing.proofs.Written.{piece-put}
use Rattle.writing.proofs.put_piece.Goals as goal

pub returns : goal.returns
returns c =
    let a = c.args in
    c.copy_into.ensures
    ∙ rw (c.put_number-2.ensures, c.put_number.ensures, c.put_header.ensures, c.piece_type.ensures)
    (piece-put a.frame.now a.at a.version a.ending a.number a.index a.part.now (omega arith))
