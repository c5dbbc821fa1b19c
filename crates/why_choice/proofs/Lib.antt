pub mod Truths
pub mod Conditions
pub mod Meant
pub mod LastLine
pub mod Back
pub mod Reading
pub mod InQuotes
mod Characters
