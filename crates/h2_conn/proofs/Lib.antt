mod Common
pub mod Choice
pub mod Walk
pub mod Queues
pub mod Sounds
pub mod Results
pub mod FrameDemands
pub mod Sums
pub mod Carries
pub mod WindowSums
pub mod Tellings
pub mod OfferedMessages
