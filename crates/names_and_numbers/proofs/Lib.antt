pub mod Bools
pub mod Decimals
pub mod Printed
