pub mod Tokens
pub mod Managers
