pub mod Names
pub mod Sds
pub mod Files
pub mod Serials
