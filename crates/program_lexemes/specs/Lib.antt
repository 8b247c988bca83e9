pub mod Limits
pub mod Spellings
pub mod Forms
pub mod Lexemes
pub mod Prefixes
pub mod SpacedLexemes
pub mod Numbers
pub mod Names
