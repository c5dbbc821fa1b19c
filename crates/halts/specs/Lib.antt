pub mod None
pub mod Halts
