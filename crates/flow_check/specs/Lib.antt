pub mod Edges
pub mod Laid
pub mod Flow
pub mod Fault
pub mod Reading
pub mod Sweep
pub mod Texts
