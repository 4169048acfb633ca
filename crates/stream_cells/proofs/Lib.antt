-- What is proved of the stream record as cells.
pub mod Cases
pub mod Faithful
