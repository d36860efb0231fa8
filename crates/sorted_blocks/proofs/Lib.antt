pub mod Partitions
pub mod BlockOfKey
pub mod OneMoreItem
