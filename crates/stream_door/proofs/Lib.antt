-- What is proved of the stream's calls on cells.
pub mod Rest
pub mod StreamCases
pub mod Feeding
