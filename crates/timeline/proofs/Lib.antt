pub mod Enclosed
pub mod Kept
pub mod Raised
pub mod Written
