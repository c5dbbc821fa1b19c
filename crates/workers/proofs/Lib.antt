mod Counts
mod Onwards
mod Turns
mod OfRuns
mod Served
mod InPlace
mod Lines
