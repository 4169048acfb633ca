-- Laws of digits, of the reader of lines and of printed rows, and the theorems about whole texts.
pub mod Values
pub mod Steps
pub mod Columns
pub mod Tallied
pub mod Present
pub mod Bytewise
pub mod Cut
pub mod EveryLine
pub mod Split
pub mod Settled
pub mod Example
