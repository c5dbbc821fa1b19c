pub mod Loaded
pub mod LineEvents
pub mod Replies
pub mod Played
pub mod Replays
pub mod Texts
