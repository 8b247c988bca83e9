pub mod LeafRests
pub mod LeafLevels
pub mod Ways
pub mod SortedLists
pub mod NextRoots
pub mod Laws
pub mod Worked
