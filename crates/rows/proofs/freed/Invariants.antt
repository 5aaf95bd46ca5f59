-- `rows::freed` meets its contract.
use mathlib.Core.Path.{◌≡◌}
use Prim.Native.Nat.{◌≤◌}
use lib.ListN.{length}
use Rattle.rows.specs.Message.{freed_from}
use Rattle.rows.proofs.freed.Given as goal

abbrev pub invariant-loop-j : goal.invariant-loop-j
invariant-loop-j l = (l.j-end ≤ l.window) × (l.next ≡ freed_from l.window 0 l.greatest l.j l.initial.next) × (length l.next ≡ 16)
