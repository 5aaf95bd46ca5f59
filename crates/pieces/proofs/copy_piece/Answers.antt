-- `pieces::copy_piece` meets its contract.
use mathlib.Core.Path.{sym}
use native.Mathlib.Nat.{add-zero}
use Rattle.octets.proofs.Put.{put-none}
use Rattle.pieces.proofs.copy_piece.Goals as goal

pub returns-then-n-eq0 : goal.returns-then-n-eq0
returns-then-n-eq0 c = let a = c.args in rw c.if-n-eq0.true (sym (add-zero a.at), sym (put-none a.out.now a.at))
