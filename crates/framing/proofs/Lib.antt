-- Laws for callers.
--     Answers   an answer is determined by its words and number
--     Ways      the ways to place a bundle
pub mod Steps
pub mod Ways
pub mod Answers
