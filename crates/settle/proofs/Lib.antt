pub mod LeafPasses
pub mod Noting
pub mod ToldAsks
pub mod RunChanges
pub mod Looks
pub mod Evaluating
pub mod OneLook
pub mod WatchedLevels
