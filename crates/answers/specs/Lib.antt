pub mod Receiver
pub mod Burst
pub mod Sender
