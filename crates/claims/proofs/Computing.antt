-- Every definition that a receiving call computes with: `computing` on an `unfolding` line opens them all.
use Prim.Native.Nat.{ℕ}
use Rattle.wire.specs.Layout as Wire
use Rattle.wire.specs.Frame as Frame
use Rattle.octets.specs.Octets as Octets
use Rattle.window.specs.Window as Window
use Rattle.pieces.specs.Pieces as Pieces
use Rattle.row.specs.Row as Row
use Rattle.reassembly.specs.Rules as Rules
use Rattle.rows.specs.State as State
use Rattle.rows.specs.Message as Message
use Rattle.receiver.specs.Receive as Receive

unfoldable pub computing : ℕ
unfolding Wire.zeros Wire.kind_of Wire.length_field Wire.chain Wire.hints Wire.fitting Wire.message Wire.content Wire.body Wire.bodied Wire.headed Wire.read Frame.prepend Frame.items Frame.follow Frame.starts Frame.judged Frame.scan Frame.scanned Frame.checked Frame.messages Frame.from Octets.number Octets.put Window.standing Window.standing_of Window.enters Pieces.has Pieces.has_above Pieces.has_all Pieces.distinct Octets.sum_of Pieces.is_zeros Pieces.low_and_distinct Row.indexes_of Row.lengths_of Pieces.start_of Pieces.size_of Pieces.piece Pieces.joined Rules.cancelled Row.contradicts Row.judge_live Row.judge Rules.with_piece Rules.complete Rules.bundle_of Rules.settle Rules.carry_out Rules.piece_step Rules.cancel_step Row.sound_last Pieces.zero_from Row.sound_pieces Row.sound_open Row.sound_empty Row.sound_row State.fresh State.sound_from State.sound Message.cell_at Message.put_cell Message.handed_of Message.freed_from Message.moved Message.in_row Message.treat_transfer Message.step Receive.frame_refusal Receive.replied Receive.delivered Message.messages_from Receive.refusal Receive.treat Receive.receive_as
computing = 0
