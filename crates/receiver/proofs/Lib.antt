-- Laws of the definitions, and what the proofs of several functions use.
--     Limit      the receiving call is the message loop with a limit of one bundle
--     Refusals   refused calls change nothing; the order of the refusals
--     Pool       cells after one of them is put
--     Ready      every message and every call leaves a sound state sound
--     Calls      a receiving call by cases
--     Standing   where messages stand in a well-formed frame
--     Bounds     the place that a refusal names, and the greatest number, lie within bounds
--     Reserved   reserved flag bits are ignored
--     Weight     no octet is handed out twice
--     Keeping    every call leaves the settings
pub mod Limit
pub mod Refusals
pub mod Pool
pub mod Ready
pub mod Calls
pub mod Standing
pub mod Bounds
pub mod Reserved
pub mod Weight
pub mod Keeping
