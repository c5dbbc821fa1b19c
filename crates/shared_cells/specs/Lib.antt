pub mod History
pub mod Loads
pub mod Passes
pub mod Quotas
pub mod Rule
pub mod Texts
pub mod Words
