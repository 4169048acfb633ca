pub mod Pass
pub mod Reads
