-- What a call of the stream's `feed` comes to in this program, the record that a read leaves, and the theorem about all that is written.
pub mod OnlyFull
pub mod Passed
pub mod AllFrames
