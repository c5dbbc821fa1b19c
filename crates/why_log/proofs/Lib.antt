mod Kept
mod Apps
mod Whole
