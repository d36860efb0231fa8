pub mod Views
pub mod FilteredLists
pub mod Steps
pub mod Agreement
