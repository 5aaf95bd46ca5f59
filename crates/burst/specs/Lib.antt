pub mod Burst
pub mod Equal
