pub mod NetTells
pub mod NetSystem
pub mod Settling
pub mod PartPlaces
pub mod RisingWords
pub mod ToldWords
pub mod FinalWords
pub mod RestingWords
