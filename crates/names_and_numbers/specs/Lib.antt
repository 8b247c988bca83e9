pub mod Limits
pub mod Prefixes
pub mod Names
pub mod Numbers
