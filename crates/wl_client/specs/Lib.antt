pub mod Faults
pub mod Statuses
pub mod Openings
pub mod Hearing
pub mod Clients
pub mod Messages
pub mod Assembling
