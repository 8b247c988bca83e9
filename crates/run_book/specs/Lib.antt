pub mod Books
pub mod Codes
