pub mod RequestFields
mod States
