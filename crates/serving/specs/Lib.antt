pub mod Texts
pub mod Manifests
pub mod Staff
pub mod Staffed
pub mod Ended
