pub mod Stores
pub mod Flights
pub mod Steps
pub mod Touched
pub mod Groups
