mod Slots
mod Steps
