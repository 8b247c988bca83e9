pub mod FlatNodes
pub mod Emitters
pub mod FormParts
pub mod Placing
pub mod Numbered
pub mod Refusals
