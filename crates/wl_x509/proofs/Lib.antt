mod Common
pub mod Encodings
pub mod Digits
pub mod CertificateEncoding
pub mod RoundTrips
pub mod Tallies
pub mod LeafReading
pub mod Faults
