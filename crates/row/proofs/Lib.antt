-- What the proofs of several functions use, and the laws for callers.
--     Shaped    the lengths of a row's arrays
--     Sound     what a sound row has, and that an empty row is sound
--     Judging   the verdict on a segment or an end, by cases
--     Chain     tests joined by `&&` in the code
pub mod Shaped
pub mod Sound
pub mod Judging
pub mod Chain
