mod Runs
mod Accepted
mod Lists
mod Served
