mod Walk
mod OneRun
mod Sharing
