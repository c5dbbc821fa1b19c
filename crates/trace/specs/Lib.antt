pub mod Jumps
pub mod Trace
