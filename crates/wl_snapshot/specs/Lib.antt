pub mod Snapshots
pub mod Untouched
pub mod Views
pub mod Same
pub mod Answers
