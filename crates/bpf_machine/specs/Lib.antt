pub mod Words
pub mod Next
pub mod Advance
pub mod Represents
