-- Laws of the printed rows, and the theorems about frames and whole texts.
pub mod Printing
pub mod Columns
pub mod WholeText
pub mod Settled
pub mod Example
