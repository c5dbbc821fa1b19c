pub mod Directories
pub mod Growing
pub mod Shapes
pub mod Values
pub mod OneWay
pub mod Apart
mod Fitting
