pub mod Folds
pub mod TestTexts
