pub mod Names
pub mod Tokens
pub mod Sets
pub mod Ends
