pub mod Choices
pub mod Record
