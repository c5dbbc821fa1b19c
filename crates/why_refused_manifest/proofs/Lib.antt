mod Parts
mod Slots
mod AppWarnings
mod Passing
mod Judged
mod Declared
mod FaultReports
mod Long
pub mod Walks
pub mod NewNames
mod First
