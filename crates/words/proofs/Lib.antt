mod Bytes
pub mod Halving
pub mod Held
