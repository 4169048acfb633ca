pub mod Words
pub mod Parts
pub mod Sentence
pub mod Run
