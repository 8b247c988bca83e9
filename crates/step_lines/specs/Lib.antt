pub mod WordNames
pub mod StepLines
pub mod Laws
