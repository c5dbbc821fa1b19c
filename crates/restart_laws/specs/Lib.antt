pub mod Moments
pub mod Servers
pub mod Starts
