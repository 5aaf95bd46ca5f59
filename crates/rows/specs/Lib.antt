pub mod Origin
pub mod State
pub mod Message
pub mod Messages
pub mod Visit
