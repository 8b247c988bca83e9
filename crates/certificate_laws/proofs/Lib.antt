pub mod Certified
pub mod Growing
pub mod CertifiedRuns
pub mod Walks
pub mod Samples
