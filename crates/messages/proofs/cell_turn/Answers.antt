-- `messages::cell_turn` meets its contract. What is lent comes back as the row's outcome has it. Assumes nothing.
use Prim.Native.Nat.{◌-◌}
use native.Mathlib.Omega.{arith}
use lib.ListN.{length, take, drop}
use Rattle.reassembly.specs.Rules.{Answers}
use Rattle.rows.specs.Message.{order_of, cell_at}
use Rattle.messages.specs.Run.{row_step}
use Rattle.messages.proofs.Cells.{lent-cell, cell-back, output-back, length-cell-in}
use Rattle.messages.proofs.Visits.{row-cell}
use Rattle.messages.proofs.cell_turn.Goals as goal

pub returns : goal.returns
returns c =
    let a = c.args in
    let p = c.requires in
    let o = row_step (order_of a.version) a.v.act a.content.now a.sound.row (cell_at a.pool.now a.v.slot) in
    let w : Answers o (take (length a.output.now - a.used) (drop a.used a.output.now)) c.row_turn.result c.row_turn.new.cell c.row_turn.new.out = rw (lent-cell a.pool.now a.v.slot, c.order_of.ensures) at c.row_turn.ensures.0 in
    let long = row-cell (order_of a.version) a.content.now a.sound.row (cell_at a.pool.now a.v.slot) a.v.act (length-cell-in a.pool.now a.v.slot p.1) in (
      record {
        row = w.row;
        delivery = w.delivery;
        pool = rw w.cell (cell-back a.pool.now a.v.slot o.cell long);
        output = rw w.output (output-back a.output.now a.used (omega arith) o.bundle);
      },
      c.row_turn.ensures.1,
      c.row_turn.ensures.2,
    )
