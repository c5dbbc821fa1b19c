pub mod Rules
pub mod Texts
