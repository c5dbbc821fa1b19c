pub mod ContextReads
mod SetBytes
mod ValuesBack
mod StatesBack
mod EntriesBack
mod AnswersBack
