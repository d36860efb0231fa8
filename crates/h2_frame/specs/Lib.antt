pub mod Heads
pub mod Parsing
pub mod Payloads
pub mod Reading
pub mod Writing
