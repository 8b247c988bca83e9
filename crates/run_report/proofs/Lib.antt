pub mod Occurrences
pub mod AskCounts
