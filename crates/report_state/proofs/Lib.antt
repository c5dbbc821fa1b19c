pub mod Added
pub mod Continue
pub mod Noted
pub mod Kept
