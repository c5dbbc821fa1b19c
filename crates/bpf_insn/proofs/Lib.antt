pub mod Bytes
pub mod Halves
pub mod Rules
pub mod Operations
pub mod Exact
pub mod Widths
