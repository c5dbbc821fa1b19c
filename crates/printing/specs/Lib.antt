pub mod Printed
pub mod Laws
pub mod Pushed
pub mod Columns
