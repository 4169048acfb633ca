-- What is proved of records as cells.
pub mod Tested
pub mod Cases
pub mod Back
pub mod Parts
