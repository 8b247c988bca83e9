pub mod Justified
pub mod Certificates
pub mod LeafNumbers
pub mod CertifiedRuns
pub mod Reasons
pub mod Laws
pub mod Worked
