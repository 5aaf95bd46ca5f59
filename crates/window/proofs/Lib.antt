-- Laws for callers.
pub mod Sizes
pub mod Entering
