pub mod Published
pub mod Book
pub mod Seats
pub mod Latest
pub mod Texts
