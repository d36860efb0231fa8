mod Texts
mod Steps
mod Simulations
