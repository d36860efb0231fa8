pub mod DroppedTokens
pub mod Vouchers
