pub mod Table
pub mod Faults
pub mod Spelling
pub mod Words
pub mod Arithmetic
pub mod Conditions
pub mod Program
pub mod Halves
