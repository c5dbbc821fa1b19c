pub mod Values
pub mod Reads
pub mod Way
pub mod RegisterTexts
pub mod RefusedPlace
pub mod Lines
