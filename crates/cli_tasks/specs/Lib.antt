pub mod Replays
pub mod Texts
pub mod Outputs
pub mod Answered
