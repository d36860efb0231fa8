pub mod Families
pub mod Labels
pub mod Samples
pub mod Calls
pub mod Page
pub mod Health
