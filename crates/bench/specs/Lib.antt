pub mod Patterns
pub mod Judged
pub mod Runs
