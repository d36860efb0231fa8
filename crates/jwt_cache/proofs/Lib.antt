pub mod Newest
pub mod KeptTokens
pub mod EachKeep
