pub mod Heads
pub mod Hearings
pub mod Steps
pub mod Cuts
pub mod Arrivals
pub mod Fields
pub mod Assemblies
