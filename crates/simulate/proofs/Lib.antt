mod Courses
mod Counted
mod Written
mod Places
mod Floatless
