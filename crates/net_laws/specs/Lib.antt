pub mod Ways
pub mod WordsBelow
pub mod FinalWords
pub mod Laws
