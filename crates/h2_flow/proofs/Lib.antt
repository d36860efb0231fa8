mod Common
pub mod Turns
pub mod Rounds
pub mod Puts
pub mod Places
pub mod QuietPulls
pub mod Numbers
pub mod Offers
pub mod Orders
pub mod Sums
pub mod Messages
pub mod Progress
pub mod BegunCounts
