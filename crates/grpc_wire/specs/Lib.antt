pub mod Methods
pub mod Refusals
pub mod Heads
pub mod Messages
pub mod Answers
pub mod Cutting
pub mod Bodies
