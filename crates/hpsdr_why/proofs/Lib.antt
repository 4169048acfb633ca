-- What is proved of the reason of a place through the door.
pub mod Tells
pub mod Settled
