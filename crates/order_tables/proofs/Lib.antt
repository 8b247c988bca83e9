pub mod Lists
pub mod Spread
pub mod Tables
pub mod Steps
pub mod Marks
pub mod Nexts
