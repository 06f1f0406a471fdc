pub mod Blocks
pub mod Folds
pub mod Keys
pub mod Parts
pub mod Squeezing
pub mod Stream
