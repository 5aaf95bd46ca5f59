-- Laws of the definitions, and what the proofs of several functions use.
--     Fits      contents that fit their kind are long enough
--     Rows      the rows of a state: those that a new number frees, and their soundness
--     Keeping   messages leave the settings
pub mod Fits
pub mod Rows
pub mod Keeping
