mod Cuts
mod Outcomes
mod Orders
