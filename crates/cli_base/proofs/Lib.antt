mod Aliased
mod Built
mod Found
pub mod Reading
pub mod Parsed
pub mod Requested
pub mod Attributes
pub mod Lacking
