pub mod Logs
pub mod Continued
