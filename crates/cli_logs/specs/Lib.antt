pub mod Reports
pub mod Faults
pub mod Continued
