-- Laws of the loop over frames, and its equality with single calls.
--     Joined    frames from their lengths and their joined octets
--     Passing   what the loop keeps
--     Adding    what bundles and refused frames add to an output and to lists
--     Costs     what a message brings is no more than the octets that it takes up
--     Singly    a run over a frame's messages is single calls
--     Burst     the loop over frames is single calls
--     Calls     how many bundles single calls hand out; calls that go on where others stopped
--     Keeping   the settings stay
pub mod Joined
pub mod Passing
pub mod Adding
pub mod Costs
pub mod Singly
pub mod Burst
pub mod Calls
pub mod Keeping
