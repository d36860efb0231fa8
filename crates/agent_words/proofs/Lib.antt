mod Leaves
mod Top
