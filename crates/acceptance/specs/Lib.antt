pub mod Program
pub mod Rule
pub mod Texts
