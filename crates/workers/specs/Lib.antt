pub mod Texts
pub mod Answers
pub mod Runs
pub mod Back
pub mod Promised
