pub mod Selections
pub mod SearchResults
pub mod Halves
pub mod Places
pub mod Marks
