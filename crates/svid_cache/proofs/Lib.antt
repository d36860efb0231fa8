mod Common
pub mod Blocks
pub mod AskBlocks
pub mod KeyTests
pub mod CacheFacts
pub mod Latest
pub mod Expiries
pub mod Begins
pub mod RepeatedKeeps
