pub mod Samples
pub mod Fill
