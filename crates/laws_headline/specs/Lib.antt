pub mod Own
pub mod Changes
pub mod Agreeing
pub mod Headline
