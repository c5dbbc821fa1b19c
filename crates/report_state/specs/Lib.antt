pub mod Courses
pub mod Places
pub mod States
pub mod Laws
