pub mod Found
pub mod Grown
pub mod Replies
