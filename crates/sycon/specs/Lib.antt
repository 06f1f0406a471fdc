pub mod Examples
pub mod Laws
pub mod Permutation
pub mod Published
pub mod Steps
