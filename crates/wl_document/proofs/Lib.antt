mod Common
mod Arrays
mod Walks
mod Orders
mod Checks
mod Withins
mod KeptItems
mod Plain
