pub mod Tabled
pub mod Made
pub mod Matched
pub mod Ranges
pub mod Texts
pub mod Floatless
