pub mod GeneratedUnits
pub mod GeneratedSurfaces
pub mod GeneratedTables
pub mod GeneratedInputs
