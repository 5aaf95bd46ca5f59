-- Laws for callers.
--     Flags     tests joined by `&&`, `||` and `cond`
--     Cases     tables of refusals
--     Admitting refusals as a call answers them
--     Put       writing at an offset
--     Numbers   a number that was written reads back
--     Series    items of one width, read and written one by one
--     Pairs     numbers of 16 bits one behind another
pub mod Flags
pub mod Admitting
pub mod Cases
pub mod Put
pub mod Numbers
pub mod Series
pub mod Pairs
pub mod Sums
