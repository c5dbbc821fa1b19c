pub mod Counted
mod Halted
mod Held
pub mod Leading
pub mod Lines
mod Performed
pub mod Positions
mod Refused
mod Replied
mod StateWritten
