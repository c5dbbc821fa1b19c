pub mod Explanations
pub mod Orders
pub mod Traces
