pub mod Read
pub mod Build
pub mod Exchange
pub mod WhichByte
pub mod Swapped
