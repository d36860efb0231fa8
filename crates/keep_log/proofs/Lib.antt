pub mod PrintableLines
