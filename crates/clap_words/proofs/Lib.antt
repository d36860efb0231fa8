pub mod Past
pub mod Declares
pub mod Levels
pub mod Top
pub mod ManyOperands
