pub mod Courses
pub mod RequestWords
pub mod Ids
pub mod Messages
pub mod Passages
pub mod Printable
pub mod Standings
