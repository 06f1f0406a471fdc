pub mod Bytewise
pub mod Calls
pub mod Laws
