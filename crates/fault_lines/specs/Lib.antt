pub mod Lines
pub mod Numbers
pub mod Names
pub mod Texts
pub mod Sentences
pub mod Explanations
