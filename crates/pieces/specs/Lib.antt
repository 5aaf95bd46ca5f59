pub mod Pieces
pub mod Note
pub mod Search
