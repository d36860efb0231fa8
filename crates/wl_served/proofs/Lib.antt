mod Common
pub mod ConnectionSteps
pub mod PeerBytes
pub mod Isolation
pub mod CompleteRounds
pub mod ServedCalls
