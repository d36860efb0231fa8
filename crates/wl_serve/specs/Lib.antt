pub mod Views
pub mod Seating
pub mod Prepared
pub mod Serving
