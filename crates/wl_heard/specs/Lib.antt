pub mod Written
pub mod Clients
pub mod Calls
pub mod Statuses
