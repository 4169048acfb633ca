-- The laws of the reading, by subject.
pub mod Readings
pub mod Append
pub mod InARow
pub mod NoneGood
pub mod UnderWay
pub mod UpTo
