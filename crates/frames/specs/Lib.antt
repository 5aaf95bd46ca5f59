pub mod Frames
pub mod Singles
