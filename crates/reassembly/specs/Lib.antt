pub mod Delivery
pub mod Rules
