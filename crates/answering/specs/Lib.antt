pub mod Found
pub mod Apps
pub mod Reply
pub mod Answer
pub mod Connection
