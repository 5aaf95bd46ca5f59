pub mod Boards
pub mod Senders
pub mod Batches
pub mod Demands
