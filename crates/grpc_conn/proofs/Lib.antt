pub mod Bodies
pub mod Histories
pub mod Places
