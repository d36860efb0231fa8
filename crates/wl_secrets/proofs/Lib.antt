mod Common
pub mod Lists
pub mod HiddenStores
pub mod ViewModels
pub mod Calls
pub mod ViewDependence
pub mod Keeps
pub mod Seats
pub mod SelectorSides
pub mod TwoRuns
pub mod HiddenTokens
