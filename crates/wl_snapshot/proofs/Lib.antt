pub mod Choices
pub mod ViewModels
pub mod Equalities
mod ItemBytes
mod Marks
pub mod Samples
