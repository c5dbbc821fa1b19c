pub mod ContextBytes
pub mod Numbers
pub mod ShortTexts
pub mod Versions
