-- The input as it is gathered; what is said, and the theorem that it is true and whole.
pub mod Appending
pub mod Reading
pub mod Said
pub mod AllTold
