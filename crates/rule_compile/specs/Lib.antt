pub mod Instructions
pub mod Blocks
pub mod Code
pub mod Ranges
pub mod Writing
pub mod Means
pub mod Texts
