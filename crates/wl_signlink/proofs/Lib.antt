mod Bytes
mod Lines
