pub mod Unanswered
pub mod Unlogged
pub mod Uncompared
pub mod Replied
