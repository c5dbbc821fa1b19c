pub mod Rfc3339
pub mod Calendar
pub mod Moments
pub mod LogTimes
