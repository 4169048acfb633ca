-- What is proved of the host record and the builder from cells.
pub mod InTwo
pub mod Cases
pub mod Faithful
