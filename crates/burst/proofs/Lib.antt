-- Laws of the burst.
--     Starts     where frames start in the joined octets
--     Refusals   the order of the refusals, and what a burst that is not refused has
--     Equal      a burst is single calls; bursts continued are all single calls of the list
--     Low        the greatest number stays below 2 ^ 32
pub mod Starts
pub mod Refusals
pub mod Equal
pub mod Low
