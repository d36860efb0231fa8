pub mod Subscribed
pub mod Differing
pub mod Filed
