-- The proofs of demands 2 and 3, laws that their premises can be met, the marked cases, and request E2.
--     Held            indexes held, with one more, and the weight of those that lack
--     Track           one record's transfers on one board: a small machine, number by number
--     Pieces          the row of one number, and its track
--     Window          the window table along the record's numbers
--     Boards          a board and its course: each message does to the one what it does to the other
--     Taking          frames taken by calls; every well-formed frame can be taken
--     Given           what a course has handed out: bundles of the record, none twice
--     Ahead           two courses: the second is ahead of the first, number by number
--     MoreReception   demand 3
--     Examples        a gain, and the loss where a premise fails
--     Carries         rows of messages that carry bundles, several transfers begun at a time
--     InOrder         the row of a number whose pieces come in order
--     Falling         the row of a number whose pieces come in falling order
--     Behind          numbers up to the window's size behind the next, and their rows
--     Carried         the receiver's half of demand 2: a fresh board hands out what a row of messages carries
--     Framed          octets that are a row of messages
--     Flows           the messages that a sender has written, for the entries of its state
--     Parts           the pieces of a sender, by the draft
--     Sending         the sender's half: the frames of a use carry the bundles placed to their end
--     EndToEnd        demand 2
--     Uses            a use of a sender, computed
--     Computing       the definitions that a receiving call computes with
--     Marked          the marked cases, computed
--     Draft00         cases of draft 00, computed
--     Reserved        reserved flag bits are ignored, request E2
pub mod Held
pub mod Track
pub mod Pieces
pub mod Window
pub mod Boards
pub mod Taking
pub mod Given
pub mod Ahead
pub mod MoreReception
pub mod Examples
pub mod Carries
pub mod InOrder
pub mod Falling
pub mod Behind
pub mod Carried
pub mod Framed
pub mod Flows
pub mod Parts
pub mod Sending
pub mod EndToEnd
pub mod Uses
pub mod Computing
pub mod Marked
pub mod Draft00
pub mod Reserved
