pub mod Read
pub mod Export
pub mod Write
pub mod WhichByte
pub mod InTurn
