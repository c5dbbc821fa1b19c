pub mod Faults
pub mod Halts
pub mod Kept
pub mod Lines
pub mod Text
