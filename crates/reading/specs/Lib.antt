pub mod Reading
pub mod UpTo
