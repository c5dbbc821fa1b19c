pub mod Classes
pub mod Names
pub mod WellFormed
pub mod Xml
