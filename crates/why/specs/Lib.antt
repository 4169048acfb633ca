pub mod Reasons
pub mod Why
pub mod Sums
pub mod Runs
