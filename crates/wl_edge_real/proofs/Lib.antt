mod Prefixes
mod Pieces
mod Places
