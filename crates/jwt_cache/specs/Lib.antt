pub mod History
pub mod Rings
