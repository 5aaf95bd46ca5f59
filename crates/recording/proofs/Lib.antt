-- Laws of recordings.
--     Lengths   loops over the lengths of frames
--     Reading   the reader's answers
--     Writes    what the writer writes
--     Trips     reading what was written, and writing what was read
--     Refusals  the order of the refusals
--     Opens     what a caller has of a recording that was opened
pub mod Lengths
pub mod Reading
pub mod Writes
pub mod Trips
pub mod Refusals
pub mod Opens
