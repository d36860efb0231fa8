pub mod Sources
pub mod Sinks
pub mod RecordedCalls
pub mod KnownSockets
pub mod LinksGiven
