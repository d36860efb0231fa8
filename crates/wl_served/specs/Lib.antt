pub mod Served
pub mod Agreeing
pub mod Owning
pub mod Complete
pub mod Sent
