pub mod Operands
pub mod Found
