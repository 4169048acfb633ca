-- What is proved of the calls on cells.
pub mod Leaves
pub mod Settled
pub mod Tells
