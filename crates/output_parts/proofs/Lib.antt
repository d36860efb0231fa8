mod Copies
mod Fronts
