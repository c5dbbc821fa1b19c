pub mod Reply
pub mod Length
pub mod Head
pub mod Faults
pub mod Post
pub mod Reading
