pub mod Requests
pub mod Machine
pub mod Found
pub mod Explained
