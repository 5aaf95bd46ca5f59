-- Laws for callers: what is written reads back, and messages written one behind another.
pub mod Written
