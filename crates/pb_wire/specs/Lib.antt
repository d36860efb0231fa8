pub mod Varint
pub mod Spelling
pub mod Grammar
pub mod Reading
pub mod Message
pub mod Strings
