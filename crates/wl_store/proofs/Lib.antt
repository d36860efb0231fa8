mod Common
pub mod Asks
pub mod FlightAsks
pub mod Publications
pub mod Sames
pub mod StoreSteps
pub mod UntouchedParts
pub mod UnmarkedFlights
