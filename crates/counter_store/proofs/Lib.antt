mod Backing
mod Kept
mod Longer
mod Receipts
mod Stored
