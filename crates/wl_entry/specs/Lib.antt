pub mod Asks
pub mod Fitness
pub mod Keys
pub mod Limits
pub mod Same
pub mod Entitled
