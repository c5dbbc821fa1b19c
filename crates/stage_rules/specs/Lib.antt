pub mod Halts
pub mod Thresholds
pub mod Raises
pub mod ReleaseHalts
pub mod InForce
pub mod Lifting
