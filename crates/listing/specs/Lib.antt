pub mod Buffer
pub mod Chunk
