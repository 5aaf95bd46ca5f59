-- What the proofs of several functions use, and the laws for callers.
--     Lists       the entries that a loop has yet to look at
--     Passing     past pieces of lower indexes
--     Apart       distinct indexes by a table of those seen
--     Counting    indexes held and lacking: how high, and how many
--     Joining     pieces in a cell, and their joining
--     Appending   lists with more entries behind, or with one
--     Noting      the note of where each index lies is right
pub mod Lists
pub mod Passing
pub mod Apart
pub mod Counting
pub mod Joining
pub mod Appending
pub mod Noting
