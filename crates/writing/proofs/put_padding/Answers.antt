-- `writing::put_padding` meets its contract.
use mathlib.Core.Path.{◌≡◌, ◌∙◌}
use mathlib.Core.List.{List}
use Prim.Native.Nat.{ℕ, ◌+◌, ◌-◌}
use native.Mathlib.Omega.{arith}
use lib.ListN.{length}
use borrow.Author.Tests.{lt-leb}
use Rattle.writing.specs.Written.{padding}
use Rattle.writing.proofs.Written.{padding-put}
use Rattle.writing.proofs.put_padding.Goals as goal

pub returns-then-room-lt4 : goal.returns-then-room-lt4
unfolding padding
returns-then-room-lt4 c =
    let a = c.args in
    rw (lt-leb 4 (length a.frame.now - a.at) (omega arith)) c.zero_from.ensures

pub returns : goal.returns
returns c =
    let a = c.args in
    let d : List ℕ = a.frame.now in
    let e : length c.put_header.new.frame - (a.at + 4) ≡ length d - a.at - 4 = omega arith in
    c.zero_from-2.ensures ∙ rw (e, c.put_header.ensures) (padding-put d a.at (length d - a.at) (omega arith) (omega arith))
