pub mod PrintableText
