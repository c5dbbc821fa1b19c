pub mod Digests
pub mod Offered
pub mod Shown
