pub mod Values
pub mod Times
pub mod Encodings
pub mod Certificates
pub mod Leaves
pub mod Tallies
