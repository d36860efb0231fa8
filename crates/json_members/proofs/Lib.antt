mod Items
mod Bytes
pub mod Walks
