pub mod RootLists
pub mod NextRoots
