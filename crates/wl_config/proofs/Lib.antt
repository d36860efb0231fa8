mod Arrays
mod Walks
mod NewNames
pub mod Ranges
pub mod Marks
pub mod Parts
mod OwnSelectors
