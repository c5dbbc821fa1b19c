pub mod Texts
pub mod Ready
pub mod Commands
