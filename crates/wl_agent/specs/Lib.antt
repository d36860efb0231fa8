pub mod Args
pub mod Kept
pub mod Lines
pub mod Outcomes
pub mod Ends
pub mod ServeWords
pub mod ServeEnds
pub mod Headline
