pub mod Record
pub mod Calls
pub mod Demand3
pub mod Marked
pub mod Draft00
pub mod Use
pub mod Demand2
pub mod Reserved
