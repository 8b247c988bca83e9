pub mod NodeForms
pub mod CoreTrees
pub mod LocalCells
pub mod ScopedAgents
pub mod CorePrograms
pub mod CoreVerdicts
