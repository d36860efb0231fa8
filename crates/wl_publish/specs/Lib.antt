pub mod Lists
pub mod Books
pub mod Listings
pub mod History
pub mod Reading
pub mod Places
