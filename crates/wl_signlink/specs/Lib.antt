-- What the contracts cite, in the order in which a reader wants it.
pub mod Requests
pub mod Replies
pub mod Exchanges
pub mod Vouched
pub mod LinkStates
