pub mod CoreTexts
pub mod Beginnings
pub mod GoodNames
