pub mod Outcomes
pub mod Huffman
pub mod Tree
pub mod Tables
pub mod Reading
pub mod Grammar
pub mod Decoding
pub mod Writing
