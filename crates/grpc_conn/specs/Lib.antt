pub mod Requests
pub mod Verdicts
pub mod Calls
