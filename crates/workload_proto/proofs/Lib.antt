pub mod RequestFields
pub mod RequestBytes
mod Faults
