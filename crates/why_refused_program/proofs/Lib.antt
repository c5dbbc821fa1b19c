mod Texts
mod Top
mod Registers
mod Plain
mod Walking
mod Skipped
