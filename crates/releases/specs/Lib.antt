pub mod Appid
pub mod Release
