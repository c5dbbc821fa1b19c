pub mod OneEnd
pub mod Next
pub mod WordResults
pub mod WordReads
pub mod WordHelpers
pub mod WordsKept
