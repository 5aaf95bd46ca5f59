-- Laws for callers.
--     Refusals   the refusal given is the first that applies, and then nothing changes
--     Kept       every call leaves a sound state sound
--     Bounds     numbers have 32 bits, and frames of octets stay octets
--     Ways       the ways through the calls
--     Facts      what a sound state says
--     Reckoned   the index of a piece, reckoned from the octets that remain
pub mod Reckoned
pub mod Facts
pub mod Ways
pub mod Refusals
pub mod Kept
pub mod Bounds
mod Cases
