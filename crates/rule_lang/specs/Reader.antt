-- How the reader reads a rule, phrase by phrase. The grammar is proved to agree with it.
pub mod Drafts
pub mod Reading
pub mod Sound
pub mod Results
pub mod ReadsOne
