mod Lists
mod Courses
pub mod SeatLists
mod PassOrder
mod Ends
