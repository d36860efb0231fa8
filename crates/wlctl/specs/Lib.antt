pub mod Endpoints
pub mod Asks
pub mod Ticking
