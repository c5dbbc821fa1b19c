pub mod Ending
pub mod Quoted
pub mod Texts
pub mod Reading
pub mod RuleLines
pub mod Parts
