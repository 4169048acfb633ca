-- The output buffer while rows gather in it, the loop over a chunk, and the theorem about all that is written.
pub mod Gather
pub mod Chunk
pub mod AllRows
