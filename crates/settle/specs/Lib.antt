pub mod Ways
pub mod Asking
pub mod Looking
pub mod Evaluations
pub mod WorkedChain
