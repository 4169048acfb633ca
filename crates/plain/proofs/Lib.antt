-- The cases of a call, and the loop that follows the reading; then its counts, and that the outcome is settled.
pub mod Cases
pub mod Following
pub mod Counts
pub mod Settled
