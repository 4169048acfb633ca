-- Laws of the loop over a window's bytes, of how long the texts are, and of the call's cases; and the theorems.
pub mod Cells
pub mod Lengths
pub mod Calls
pub mod Inside
pub mod Told
pub mod Settled
pub mod Example
