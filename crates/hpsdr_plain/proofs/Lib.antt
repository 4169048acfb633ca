-- What is proved of the plain reader on lent slices.
pub mod Tells
pub mod Settled
