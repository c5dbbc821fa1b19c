mod Counts
mod Covered
mod Servers
mod Starts
