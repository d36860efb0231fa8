pub mod Leaves
pub mod Top
