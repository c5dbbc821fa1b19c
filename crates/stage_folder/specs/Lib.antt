pub mod Folders
pub mod Names
pub mod Steps
pub mod Recorded
