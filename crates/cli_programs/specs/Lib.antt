pub mod Resources
pub mod Assembly
pub mod Programs
pub mod Rules
pub mod Texts
