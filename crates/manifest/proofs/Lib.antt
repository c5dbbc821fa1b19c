pub mod Prefix
pub mod Items
mod Readings
