mod Events
mod Unread
mod Unwritten
