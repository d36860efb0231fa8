pub mod Values
mod ReadBack
