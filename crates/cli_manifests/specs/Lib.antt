pub mod Manifests
pub mod Checks
pub mod CheckObjects
pub mod CheckedObjects
pub mod Simulations
