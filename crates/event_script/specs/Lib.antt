pub mod Script
pub mod Texts
