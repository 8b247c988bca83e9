pub mod Cuts
pub mod NoneNamed
pub mod CellWords
pub mod OneWord
pub mod OneStep
pub mod Objects
