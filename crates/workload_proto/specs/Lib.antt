pub mod Spelling
pub mod Requests
pub mod Steps
