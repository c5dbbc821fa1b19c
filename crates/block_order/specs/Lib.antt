pub mod Order
pub mod Law
pub mod Reach
pub mod Refusal
