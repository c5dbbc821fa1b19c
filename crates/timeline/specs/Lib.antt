pub mod Bins
pub mod Courses
pub mod Loads
pub mod Marks
pub mod Newest
pub mod SeriesRows
pub mod Versions
