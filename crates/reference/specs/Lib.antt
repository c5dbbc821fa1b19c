pub mod Marks
pub mod Attempts
pub mod Observed
pub mod Runs
