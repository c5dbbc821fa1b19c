pub mod Layouts
pub mod Places
pub mod Marks
pub mod Graph
pub mod Readings
pub mod Beginnings
pub mod Verdicts
pub mod Laid
