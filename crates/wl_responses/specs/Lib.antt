pub mod Steps
pub mod Replies
pub mod Responses
pub mod Moves
pub mod Runs
pub mod Statuses
pub mod Completeness
