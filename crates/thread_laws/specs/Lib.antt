pub mod Runs
pub mod Entries
pub mod OneWorld
pub mod InTurn
pub mod Passes
pub mod Quotas
