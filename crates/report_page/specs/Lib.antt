pub mod Digests
pub mod Pages
