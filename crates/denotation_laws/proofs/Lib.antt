pub mod ClosedSets
pub mod ClosedStores
pub mod Tellings
pub mod Steps
pub mod NodeLeaves
pub mod HistoryLeaves
pub mod Completed
pub mod Runs
