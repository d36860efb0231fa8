-- What the contracts cite, in the order in which a reader wants it. The last two are what the code keeps while it reads.
pub mod Places
pub mod Checks
pub mod Arrays
pub mod Members
pub mod Bundles
pub mod Entries
pub mod Svids
pub mod States
pub mod Documents
pub mod Kept
pub mod Walks
