pub mod Admission
pub mod Octets
