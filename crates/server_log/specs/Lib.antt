pub mod Loads
pub mod Counters
pub mod Halts
pub mod Requested
pub mod ConnectionRecord
pub mod Starts
