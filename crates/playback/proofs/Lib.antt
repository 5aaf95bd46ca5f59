-- Laws of playback.
--     Fits       nothing but the limit of messages stops a playback
--     Fresh      playback on a fresh receiver
--     Refusals   the order of the refusals, and the count of messages
pub mod Fits
pub mod Fresh
pub mod Refusals
