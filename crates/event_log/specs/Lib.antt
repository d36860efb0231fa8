pub mod Texts
pub mod Events
pub mod Lines
pub mod Repeats
