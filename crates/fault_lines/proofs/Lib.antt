mod WordLists
pub mod RoundTrip
