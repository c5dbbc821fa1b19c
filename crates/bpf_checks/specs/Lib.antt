pub mod Reads
pub mod Arrays
pub mod Memory
pub mod Rules
pub mod Transfer
pub mod Sound
pub mod Texts
