mod Restored
pub mod Given
pub mod Passes
pub mod Outcomes
pub mod Computing
pub mod Jumping
pub mod ContextReads
pub mod Regions
pub mod CellAddresses
pub mod CellSteps
pub mod AtomicSteps
pub mod WideSteps
pub mod CallSteps
pub mod Accesses
pub mod Ranges
pub mod Steps
