pub mod Bytewise
pub mod Exactly
pub mod Inverse
pub mod Messages
pub mod OpenedBlocks
pub mod SealedBlocks
