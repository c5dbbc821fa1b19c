pub mod Files
pub mod Kept
pub mod SoFar
pub mod Texts
