mod Prefixes
pub mod Numbers
mod Additions
mod Keeps
