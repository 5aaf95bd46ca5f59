-- Laws of the definitions, and what the proofs of several functions use.
--     Admits    contents are long enough for what is done with them
--     Cells     the row's part of the pool, and the output behind the bundles that are out
--     Visits    a message as the code takes it is the step of the definition
--     Looping   what the message loop keeps
--     Keeping   messages leave the settings
pub mod Admits
pub mod Cells
pub mod Visits
pub mod Looping
pub mod Keeping
