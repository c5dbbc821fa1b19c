pub mod Line
pub mod Texts
pub mod Replies
pub mod Done
pub mod Control
pub mod Counters
pub mod Perform
pub mod Leading
