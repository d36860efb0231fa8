pub mod Messages
pub mod Windows
pub mod Streams
pub mod Pulls
pub mod Outboxes
pub mod Histories
pub mod Progress
