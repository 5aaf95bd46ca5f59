pub mod Playback
pub mod Call
