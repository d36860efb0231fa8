pub mod Health
pub mod Messages
