pub mod FrontParts
pub mod Closings
pub mod SettledNets
