pub mod Building
pub mod Apps
pub mod Shapes
