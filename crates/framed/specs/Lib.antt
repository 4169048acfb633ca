pub mod Hexadecimal
pub mod Texts
