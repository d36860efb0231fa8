pub mod Keeps
pub mod Statuses
mod StatusRows
mod RequestWords
mod Operands
