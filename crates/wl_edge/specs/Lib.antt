pub mod Calls
pub mod Clocks
pub mod Edge
pub mod Links
pub mod Listeners
pub mod Scripts
pub mod Upstreams
