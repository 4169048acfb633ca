-- The laws of the words from the host: what each carries, and which records are the same.
pub mod Heard
pub mod Carries
pub mod Sameness
