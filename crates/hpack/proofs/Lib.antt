mod Common
pub mod Bits
pub mod Eviction
pub mod Numbers
pub mod Parts
pub mod Places
pub mod Refusals
pub mod Representations
pub mod StaticTable
pub mod Steps
pub mod Walks
pub mod Texts
pub mod Headers
pub mod Standings
pub mod WrittenBlocks
pub mod Lengths
