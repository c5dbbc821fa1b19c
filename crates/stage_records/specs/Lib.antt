pub mod Steps
pub mod FileStates
pub mod Records
