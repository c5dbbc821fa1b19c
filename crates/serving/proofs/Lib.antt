mod Staffing
mod Ending
mod Turns
mod Closing
mod Covers
mod Leaving
mod Moved
