pub mod Transfer
pub mod SingleReads
pub mod Steps
