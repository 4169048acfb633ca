-- The laws of a host payload and its numbers, by subject.
pub mod Lengths
pub mod Filling
pub mod Slots
pub mod SampleTrip
