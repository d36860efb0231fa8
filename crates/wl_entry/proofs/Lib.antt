pub mod Sames
pub mod FoundAtKeys
