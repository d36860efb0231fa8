-- What the contracts cite, in the order in which a reader wants it.
pub mod Places
pub mod Checks
pub mod Members
pub mod Guards
pub mod Uids
pub mod Loopbacks
pub mod SocketPlaces
pub mod Files
pub mod Endpoints
pub mod Sockets
pub mod Configs
pub mod Attested
