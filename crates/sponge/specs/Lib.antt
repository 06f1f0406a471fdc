pub mod Blocks
pub mod Examples
pub mod Modes
pub mod Rates
pub mod Stream
