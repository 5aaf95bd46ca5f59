pub mod Receiver
pub mod Burst
pub mod Sender
pub mod Recordings
pub mod Refused
