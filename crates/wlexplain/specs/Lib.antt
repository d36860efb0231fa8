pub mod Following
pub mod Endings
pub mod Steps
