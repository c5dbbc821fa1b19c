pub mod Tickets
pub mod Noted
