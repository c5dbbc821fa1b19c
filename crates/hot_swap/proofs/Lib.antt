pub mod Prefixes
pub mod Generations
pub mod Entering
pub mod KnownPublisher
pub mod Published
