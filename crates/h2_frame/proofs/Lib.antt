pub mod Fronts
pub mod Cuts
pub mod Settings
pub mod Openings
pub mod FrameRoundTrip
pub mod FedPieces
pub mod Pieces
