-- What the proofs of several functions use, and the laws for callers.
--     Kept   a sound row stays sound; lengths stay
pub mod Kept
