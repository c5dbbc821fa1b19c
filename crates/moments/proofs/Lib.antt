pub mod Dates
pub mod LogTimes
