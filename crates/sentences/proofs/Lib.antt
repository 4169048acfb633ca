-- Laws of how long the sentences and lines are, and of the calls' cases; and the theorems.
pub mod Lengths
pub mod Calls
pub mod Inside
pub mod Told
pub mod Settled
pub mod Example
