-- What the contracts cite, in the order in which a reader wants it.
pub mod Members
pub mod Arrays
pub mod Texts
