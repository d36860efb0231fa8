pub mod Elements
pub mod Blocks
pub mod Json
pub mod Decoded
