pub mod PlacesById
pub mod SelectorFiles
pub mod Hits
pub mod AscendingNumbers
pub mod ById
pub mod ChosenPlaces
