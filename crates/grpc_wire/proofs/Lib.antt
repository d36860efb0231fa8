pub mod Prefixes
pub mod Fronts
pub mod Cuts
pub mod Pieces
pub mod MessageFrames
pub mod Escapes
mod Bodies
