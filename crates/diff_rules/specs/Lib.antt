pub mod Truths
pub mod Stack
pub mod Classes
pub mod Search
pub mod Rows
pub mod Checks
pub mod Contents
pub mod Replies
