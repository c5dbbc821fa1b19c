pub mod Clients
pub mod Course
pub mod Counts
pub mod Shown
pub mod Picked
pub mod Moving
pub mod Objects
