pub mod Kinds
pub mod Conditions
pub mod Grants
pub mod Tables
pub mod Shown
pub mod Objects
